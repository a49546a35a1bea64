-- What must be believed of sheets, in reading order. Each file states a sentence of document 01 or of a source document:
--   Literals   document 01, "bit p for proposition p", "A literal is one byte"; source document 000, section 2: sets of literals
--   Lists      no sentence: tests and statements over the members of a list
--   Problem    000, section 2: the planning problem ⟨F, O, I, G⟩ that a sheet says
--   Form       01, "The sheet is judged byte by byte": reading by the rule of each byte
--   Format     01, "The sheet", sections 1 to 7, and the rules 1 to 7 of "Numbers and their order"
--   Calls      01, "The calls are": judge
--   Encoding   01, "The sheet", as a property: the ranges of each section, and the bytes of a statement
--   Faults     01, "Numbers and their order": words for the first fault
--   Limits     01's limits on tables, pictures and rows, by name
--   Printed    01, "The program `check`": the sheet shown there
-- Definitions that only inner contracts and proofs need are in `inner`.
pub mod Literals
pub mod Lists
pub mod Problem
pub mod Form
pub mod Format
pub mod Calls
pub mod Encoding
pub mod Faults
pub mod Limits
pub mod Printed
pub mod inner
