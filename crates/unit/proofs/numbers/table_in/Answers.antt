-- `numbers::table_in` meets its contract: two copies. Assumes nothing.
use Rattle.std.proofs.Common.{get_or}
use Rattle.table.specs.Entries.{lent}
use Rattle.unit.specs.Numbers.{table_in}
use Rattle.unit.proofs.numbers.table_in.Goals as goal

pub returns : goal.returns
unfolding table_in
returns c = λ k. lent (get_or c.args.numbers.now 0 0) (c.copy_from_slice.ensures.after k) (c.copy_from_slice-2.ensures.after k)
