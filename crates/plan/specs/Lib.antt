-- What must be believed of plans, in reading order. Each file states a sentence of document 01 or 02:
--   Run           01, "A run starts, then steps the plan"; verdicts, the last table, rows
--   Search        01, "Search"
--   Cases         01's numbers and values for the cases of the enums `Verdict` and `Kind`
--   Calls         01, "The calls are", "Numbers and their order": run, search
--   Text          01, "The program `check`"
--   Exchange      02, W2, "two moves touch if"; 01, "For demand 3": exchanges
--   Meaning       demand 2: what a verdict means for the worlds of a set
--   Order         01, "shorter first, then in ascending order of moves"
--   Demand3       01, "For demand 3": classes of verdicts, moves taken, full and refused runs
--   DemandWords   words for the demands on these calls
--   Demands       the three demands and 02's W2, sentence by sentence: the page
-- Definitions that only inner contracts and proofs need are in `inner`.
pub mod Run
pub mod Search
pub mod Cases
pub mod Calls
pub mod Text
pub mod Exchange
pub mod Meaning
pub mod Order
pub mod Demand3
pub mod DemandWords
pub mod Demands
pub mod inner
