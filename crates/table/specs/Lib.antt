-- What must be believed of tables, in reading order. Each file states a sentence of document 01 or of a source document:
--   Worlds         source document 000, section 2, and document 01, "Worlds": worlds, moves in them, starting worlds, the goal
--   Minimal        001, Definition 1, and 01, "The table", "Putting a candidate": minimal tables as lists of entries
--   Entries        01, "A table is a struct with its count and two arrays of 32-bit masks": the entries of that struct
--   Fates          02, W3: the test of a candidate, and what becomes of it
--   Start          01, "Start"
--   Step           001, Definitions 2 to 4, and 01, "Step"
--   Picture        01, "Working order", "Bytes": the picture of a table
--   Prime          000, section 6, and 01, "The picture is the table's set of prime implicates"
--   Calls          01, "The calls are", "Numbers and their order": start, step
--   PictureCalls   the same for picture
--   CallWords      words for the demands on these calls
--   Demands        02, W3: the page of the requests about tables
-- Definitions that only inner contracts and proofs need are in `inner`.
pub mod Worlds
pub mod Minimal
pub mod Entries
pub mod Fates
pub mod Start
pub mod Step
pub mod Picture
pub mod Prime
pub mod Calls
pub mod PictureCalls
pub mod CallWords
pub mod Demands
pub mod inner
