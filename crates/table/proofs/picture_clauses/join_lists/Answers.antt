-- `table::picture_clauses::join_lists` meets its contract. The invariant: the clauses from i on are still to be joined. Assumes nothing.
use native.Mathlib.Omega.{arith}
use Rattle.table.proofs.laws.pictures.JoinedClauses.{unions_here, unions_past}
use Rattle.table.proofs.laws.slots.Putting.{going_on, going_err, going_end}
use Rattle.table.proofs.picture_clauses.join_lists.Goals as goal

pub returns-in_err-distribute : goal.returns-in_err-distribute
returns-in_err-distribute c =
    going_err _ c.loop-i.invariant (unions_here c.args.clauses.now _ _ (omega arith) c.at.ensures) c.distribute.ensures
    c.in_err-distribute.was c.from_residual.ensures.0

pub loop-i-preserved : goal.loop-i-preserved
loop-i-preserved c =
    going_on _ c.loop-i.invariant (unions_here c.args.clauses.now _ _ (omega arith) c.at.ensures) c.distribute.ensures
    c.in_ok-distribute.was

pub returns : goal.returns
returns c = going_end c.loop-i.invariant (unions_past c.args.clauses.now _ _ (omega arith))
