-- What must be believed of the calls for C, in reading order:
--   Numbers   answers, tables and rows as numbers in lent slices
--   Calls     document 01's calls with the six calls for C: what each answers and writes, over the definitions of the calls
pub mod Numbers
pub mod Calls
