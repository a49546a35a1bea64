-- The start: the candidates of a clause by worlds and by choices, the first table as an outcome (src/starts.rt).
-- ---- for this crate alone
pub mod LackedLiterals
pub mod OtherAlternatives
pub mod OneofWays
pub mod FalsifiedAlternatives
pub mod PackedClauses
pub mod ClauseCandidates
pub mod StartWorlds
pub mod StartOutcomes
pub mod StartCall
