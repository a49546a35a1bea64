-- Members that a test keeps; lists in arrays of masks, and what a test says of all or of one of their members.
-- ---- may be cited from above
pub mod HeldLists
pub mod ListTests
pub mod ListLoops
-- ---- for this crate alone
pub mod KeptMembers
pub mod Compaction
