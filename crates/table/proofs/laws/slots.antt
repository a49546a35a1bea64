-- Putting a candidate: on lists, by worlds, and in slots (src/entries.rt, slots.rt, tables.rt).
-- ---- may be cited from above
pub mod PutInvariants
-- ---- for this crate alone
pub mod LeastCandidates
pub mod LastWithin
pub mod PutFates
pub mod ConsistentCandidates
pub mod Putting
pub mod AbsorbedCandidates
pub mod DescribedTables
pub mod PairLoops
