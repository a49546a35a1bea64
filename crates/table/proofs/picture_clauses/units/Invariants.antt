-- `table::picture_clauses::units` meets its contract. The invariant: the literals before l are listed. Assumes nothing.
use Prim.Native.Nat.{◌-◌}
use Rattle.table.proofs.laws.pictures.UnitClauses.{Listed}
use Rattle.table.proofs.picture_clauses.units.Given as goal

abbrev pub invariant-loop-l : goal.invariant-loop-l
invariant-loop-l g l = Listed l.entry l.l l.to

abbrev pub decreases-loop-l : goal.decreases-loop-l
decreases-loop-l g l = 64 - l.l
