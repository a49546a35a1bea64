-- What the methods of the reader give (src/reader.rt): parts of a form and bytes, loops, literals, the end of a sheet; the packed array, a
-- sheet that was read.
-- ---- may be cited from above
pub mod PackedParts
pub mod ReadSheets
-- ---- for this crate alone
pub mod ReadParts
pub mod ReadLoops
pub mod ReadLiterals
pub mod ReadSections
