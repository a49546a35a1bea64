-- `sheet::reader::literal_fault` meets its contract: 3 before 4 before 5. Assumes nothing.
use mathlib.Core.Path.{sym, ap}
use Rattle.sheet.specs.inner.Reads.{literal_before, fault_in}
use Rattle.sheet.proofs.laws.format.ByteRules.{literal_3, floor_order, floor_complement, floor_fine}
use Rattle.sheet.proofs.reader.literal_fault.Goals as goal
use Rattle.sheet.proofs.reader.literal_fault.Goals.{else-b-floor-2-via-then-b-floor-2+else-floor-eq1, else-b-floor-2-via-else-b-floor-2}

pub returns-then-n-b : goal.returns-then-n-b
returns-then-n-b c = sym (ap fault_in ((literal_3 _ (literal_before c.args.floor) _).1 c.if-n-b.true))

pub returns-then-b-floor : goal.returns-then-b-floor
returns-then-b-floor c = sym (ap fault_in (floor_order _ c.args.floor _ c.if-n-b.false c.if-b-floor.true))

pub returns-then-floor-eq1 : goal.returns-then-floor-eq1
returns-then-floor-eq1 c =
    sym (ap fault_in (floor_complement _ c.args.floor _ c.if-n-b.false c.if-b-floor-2.true c.if-floor-eq1.true))

pub returns : goal.returns
returns c =
    sym (ap fault_in (floor_fine _ c.args.floor _ c.if-n-b.false c.if-b-floor.false (λ e o. elim c.else-b-floor-2.branch [
      | else-b-floor-2-via-then-b-floor-2+else-floor-eq1 w ↦ w.if-floor-eq1.false o
      | else-b-floor-2-via-else-b-floor-2 w ↦ w.if-b-floor-2.false e
    ])))
