-- Sheets on which the demands are met, and the texts that document 01 shows, computed.
-- ---- for this crate alone
pub mod LampExample
pub mod PaperSheet
pub mod TextExamples
