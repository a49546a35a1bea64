-- Rows: their numbers, and rows stored one after the other (src/rows.rt, the call run); laws of the program logic about row structs lent to
-- calls, from proofs that walked the code by hand, which nothing cites today.
-- ---- may be cited from above
pub mod LentCalls
pub mod LocalPlaces
pub mod RowCounts
-- ---- for this crate alone
pub mod RelentRows
pub mod RowCalls
pub mod RowTypes
pub mod WrittenRows
