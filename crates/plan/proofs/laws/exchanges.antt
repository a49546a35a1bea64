-- Exchanged moves: touching, commuting, exact runs, final pictures (demand 3; 02, W2).
-- ---- for this crate alone
pub mod CommutingMoves
pub mod TouchingMoves
pub mod ExchangedPlans
pub mod ExchangedWorlds
pub mod ExactRuns
pub mod ExactCalls
pub mod FinalPictures
pub mod ExchangeDemands
