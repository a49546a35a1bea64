-- Runs: by tables, by worlds, by the call; the loop of a run (src/runs.rt).
-- ---- may be cited from above
pub mod RunRefusals
-- ---- for this crate alone
pub mod RunTables
pub mod GoalWorlds
pub mod PlanWorlds
pub mod ArrivedWorlds
pub mod VerdictWorlds
pub mod VerdictClasses
pub mod StartOutcomes
pub mod StartRuns
pub mod CallVerdicts
pub mod CallRuns
pub mod CameTables
pub mod Moving
pub mod RunLoop
pub mod SheetRuns
pub mod CourseOfBytes
pub mod RunPlaces
pub mod RunDemands
