-- The step: pieces and worlds, 25 by pairs, the walk over pieces, the step of entries (src/steps.rt).
-- ---- may be cited from above
pub mod StepWorlds
pub mod PaperWorlds
-- ---- for this crate alone
pub mod PieceWorlds
pub mod OpposedPairs
pub mod PairScan
pub mod PieceWalk
pub mod CarriedResults
pub mod StepOutcomes
pub mod StepCall
