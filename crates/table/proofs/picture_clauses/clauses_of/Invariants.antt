-- `table::picture_clauses::clauses_of` meets its contract. The invariant: the entries from i on give the whole. Assumes nothing.
use Rattle.table.proofs.laws.pictures.JoinedClauses.{Folding}
use Rattle.table.proofs.picture_clauses.clauses_of.Given as goal

abbrev pub invariant-loop-i : goal.invariant-loop-i
invariant-loop-i l = Folding l.entries l.i l.clauses
