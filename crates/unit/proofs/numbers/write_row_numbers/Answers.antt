-- `unit::numbers::write_row_numbers` meets its contract: one row more. Assumes nothing.
use Rattle.std.proofs.Common.{arith}
use Rattle.unit.proofs.RowNumbers.{numbered_more}
use Rattle.unit.proofs.numbers.write_row_numbers.Goals as goal

pub loop-i-preserved : goal.loop-i-preserved
loop-i-preserved c = numbered_more c.args.counts.now _ _ _ c.loop-i.invariant (omega arith) c.row_at-row.ensures
