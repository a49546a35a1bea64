-- The text of `check` (src/text.rt, the call report).
-- ---- may be cited from above
pub mod Reports
-- ---- for this crate alone
pub mod TextBytes
