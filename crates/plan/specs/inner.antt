-- Inner tools: no promise of a call and no demand speaks of them.
--   TableRuns    a run by the lists of its tables
--   RunEnds      how runs end, by lists: what the theorems are proved of before they speak of the calls
--   FirstPlans   the first plan that a search does not pass over, by lists
--   Course       a run over lent values: its table and its rows as plain numbers (src/runs.rt)
--   Rows         rows by their numbers (src/rows.rt)
--   Movable      what runs and searches ask of their moves, goal and table (src/runs.rt, searches.rt)
--   Searches     what the recursion of a search works out, and what it asks (src/searches.rt)
--   Memory       what a search remembers (src/memory.rt)
--   Writing      what a writer leaves in a buffer (src/text.rt)
pub mod TableRuns
pub mod RunEnds
pub mod FirstPlans
pub mod Course
pub mod Rows
pub mod Movable
pub mod Searches
pub mod Memory
pub mod Writing
