-- The invariant: the rows below i are stored.
use Rattle.std.proofs.Common.{◌≡◌, ◌++◌, drop}
use Rattle.plan.specs.inner.Rows.{rows_below}
use Rattle.plan.proofs.rows.write_rows.Given as goal

abbrev pub invariant-loop-i : goal.invariant-loop-i
invariant-loop-i l = l.rows ≡ rows_below l.counts l.i ++ drop l.i l.initial.rows
