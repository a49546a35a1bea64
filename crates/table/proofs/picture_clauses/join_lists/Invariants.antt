-- `table::picture_clauses::join_lists` meets its contract. The invariant: the clauses from i on are still to be joined. Assumes nothing.
use lib.ListN.{drop}
use Rattle.table.specs.Picture.{unions}
use Rattle.table.proofs.laws.slots.Putting.{Going}
use Rattle.table.proofs.picture_clauses.join_lists.Given as goal

abbrev pub invariant-loop-i : goal.invariant-loop-i
invariant-loop-i l = Going 256 (unions l.clauses l.others) l.initial.to (unions (drop l.i l.clauses) l.others) l.to
