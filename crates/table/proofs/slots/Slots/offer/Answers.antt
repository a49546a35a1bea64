-- `table::slots::Slots::offer` meets its contract. Assumes nothing.
use Rattle.table.proofs.laws.slots.PutFates.{offered, offered_full}
use Rattle.table.proofs.slots.Slots.offer.Goals as goal

pub returns-in-Full : goal.returns-in-Full
returns-in-Full g c = offered_full _ _ _ c.put.ensures.value c.put.ensures.list c.in-Full.is

pub returns-in_default : goal.returns-in_default
returns-in_default g c = offered _ _ _ c.put.ensures.value c.put.ensures.list c.in_default.not-Full
