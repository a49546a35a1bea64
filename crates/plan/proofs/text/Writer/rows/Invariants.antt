-- The invariant: the rows below i are written.
use Rattle.std.proofs.Common.{◌+◌, ◌*◌, ◌≤◌}
use Rattle.plan.specs.inner.Rows.{rows_below}
use Rattle.plan.specs.Text.{rows_text}
use Rattle.plan.specs.inner.Writing.{Wrote}
use Rattle.plan.proofs.text.Writer.rows.Given as goal

abbrev pub invariant-loop-i : goal.invariant-loop-i
invariant-loop-i l = Wrote l.initial.self (rows_text (rows_below l.counts l.i)) l.self × (l.self.at ≤ l.initial.self.at + 63 * l.i)
