-- `table::slots::Slots::new` meets its contract. Assumes nothing.
use Rattle.table.proofs.laws.arrays.HeldLists.{entries_none, fresh}
use Rattle.table.proofs.slots.Slots.new.Goals as goal

pub invariant_of-result : goal.invariant_of-result
invariant_of-result g c = (fresh _, c.requires)

pub returns : goal.returns
returns g c = entries_none _ _
