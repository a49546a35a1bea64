-- The picture: prime implicates, their order, their bytes (src/picture_clauses.rt, picture_order.rt, picture_bytes.rt).
-- ---- may be cited from above
pub mod Primes
pub mod PictureBytes
pub mod PictureWorlds
pub mod MaskBytes
-- ---- for this crate alone
pub mod ClauseOrder
pub mod HandedClauses
pub mod JoinedClauses
pub mod UnitClauses
pub mod Insertion
