-- `sheet::reader::count_fault` meets its contract. Assumes nothing.
use mathlib.Core.Logic.{inl, inr}
use mathlib.Core.Path.{sym, ap}
use Rattle.sheet.specs.inner.Reads.{fault_in}
use Rattle.sheet.proofs.laws.format.ByteRules.{count_0, count_2}
use Rattle.sheet.proofs.reader.count_fault.Goals as goal
use Rattle.sheet.proofs.reader.count_fault.Goals.{then-k-low-via-then-k-low, then-k-low-via-else-k-low+then-high-k}

pub returns-then-k-low : goal.returns-then-k-low
returns-then-k-low c =
    sym (ap fault_in ((count_2 _ _ _).1 (elim c.then-k-low.branch [
      | then-k-low-via-then-k-low w ↦ inl w.if-k-low.true
      | then-k-low-via-else-k-low+then-high-k w ↦ inr w.if-high-k.true
    ])))

pub returns : goal.returns
returns c = sym (ap fault_in ((count_0 _ _ _).1 (c.if-k-low.false, c.if-high-k.false)))
