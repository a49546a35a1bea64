-- Searches: the order of plans, the first answer, what is remembered (src/searches.rt, memory.rt).
-- ---- may be cited from above
pub mod PlanOrder
pub mod SearchRefusals
-- ---- for this crate alone
pub mod FirstByMove
pub mod NoShorterPlans
pub mod MemorySlots
pub mod SearchReturns
pub mod TriedMoves
pub mod TriedPlans
pub mod SheetSearches
pub mod StartSearches
pub mod CarriedPlans
pub mod SearchDemands
