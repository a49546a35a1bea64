-- `table::starts::widen_or` meets its contract. The invariant: the alternatives from i on give the whole. Assumes nothing.
use mathlib.Core.List.{map}
use lib.ListN.{drop}
use Rattle.sheet.specs.Literals as L
use Rattle.sheet.specs.Lists.{keep}
use Rattle.table.proofs.laws.slots.Putting.{Going}
use Rattle.table.proofs.starts.widen_or.Given as goal

abbrev pub invariant-loop-i : goal.invariant-loop-i
invariant-loop-i l = Going 128 (keep L.consistent (map (λ a. L.join l.entry a) l.alts)) l.initial.to
    (keep L.consistent (map (λ a. L.join l.entry a) (drop l.i l.alts))) l.to
