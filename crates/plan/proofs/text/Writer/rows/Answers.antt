-- `text::Writer::rows` meets its contract: one row more. Assumes nothing.
use Rattle.std.proofs.Common.{arith}
use Rattle.plan.proofs.laws.text.TextBytes.{wrote_row}
use Rattle.plan.proofs.text.Writer.rows.Goals as goal

pub loop-i-preserved : goal.loop-i-preserved
loop-i-preserved c = (wrote_row c.args.counts.now _ c.row_at.ensures c.loop-i.invariant.0 c.row.ensures.wrote, omega arith)
