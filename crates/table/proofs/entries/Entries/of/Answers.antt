-- `table::entries::Entries::of` meets its contract. Assumes nothing.
use Rattle.table.proofs.laws.arrays.HeldLists.{pairs_front}
use Rattle.table.proofs.entries.Entries.of.Goals as goal

pub returns : goal.returns
returns c = pairs_front _ _ _ c.requires
