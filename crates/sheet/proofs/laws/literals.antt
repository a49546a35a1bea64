-- Sets of literals as masks: bits, members, literal bytes, worlds, results.
-- ---- may be cited from above
pub mod MaskBits
pub mod LiteralSets
pub mod LiteralBytes
pub mod Results
pub mod Worlds
pub mod AscendingBytes
pub mod ProperSets
-- ---- for this crate alone
pub mod LowestLiteral
pub mod LiteralTests
