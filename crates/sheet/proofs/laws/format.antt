-- The format: what forms ask for, read and take; rules and roles of bytes; the bytes of a statement; the first fault.
-- ---- may be cited from above
pub mod Encodings
pub mod Judgements
-- ---- for this crate alone
pub mod DueForms
pub mod FormReads
pub mod FormLengths
pub mod ByteRoles
pub mod ByteRules
pub mod FaultNumbers
pub mod AlikeSheets
