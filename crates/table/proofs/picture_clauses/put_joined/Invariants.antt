-- `table::picture_clauses::put_joined` meets its contract. The invariant: the others from i on are still to be joined. Assumes nothing.
use mathlib.Core.List.{map}
use lib.ListN.{drop}
use Rattle.sheet.specs.Literals.{join, consistent}
use Rattle.sheet.specs.Lists.{keep}
use Rattle.table.proofs.laws.slots.Putting.{Going}
use Rattle.table.proofs.picture_clauses.put_joined.Given as goal

abbrev pub invariant-loop-i : goal.invariant-loop-i
invariant-loop-i l = Going 256 (keep consistent (map (join l.clause) l.others)) l.initial.to
    (keep consistent (map (join l.clause) (drop l.i l.others))) l.to
