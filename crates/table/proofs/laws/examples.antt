-- The bench examples of document 01, computed.
-- ---- may be cited from above
pub mod BenchExamples
-- ---- for this crate alone
pub mod PictureExamples
