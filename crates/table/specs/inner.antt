-- Inner tools: no promise of a call and no demand speaks of them.
--   Slots            lists of sets, lent or with their capacity, and a candidate put there (src/slots.rt, entries.rt)
--   Puts             several candidates put, one after the other (src/slots.rt)
--   Starts           what the functions of src/starts.rt ask and give
--   Pairs            25 by pairs of effects, without splitting (src/steps.rt)
--   Carry            what is carried down the split (src/steps.rt)
--   Steps            what a step of entries asks and gives (src/steps.rt)
--   Outcomes         what came of a start or a step, as an outcome
--   PictureClauses   clauses as they are handed out, and the room for their bytes (src/picture_clauses.rt, picture_bytes.rt)
pub mod Slots
pub mod Puts
pub mod Starts
pub mod Pairs
pub mod Carry
pub mod Steps
pub mod Outcomes
pub mod PictureClauses
