-- General laws, of no one crate.
-- ---- may be cited from above
pub mod Bools
pub mod ListFacts
pub mod ListMembers
pub mod Prefixes
pub mod Padding
