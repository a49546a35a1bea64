-- The calls start, step and picture: each number on its own condition, and what comes back.
-- ---- may be cited from above
pub mod UnreadSlots
pub mod CallTables
pub mod CallDemands
-- ---- for this crate alone
pub mod StartStepAnswers
pub mod PictureAnswers
