-- The limits by name: document 01's, and the lengths of the arrays that follow from them.
use Rattle.std.specs.Prelude.{ℕ}

-- ---- tables, pictures, runs
-- entries of a table
abbrev pub most_entries : ℕ
most_entries = 128

-- clauses of a picture
abbrev pub most_clauses : ℕ
most_clauses = 256

-- the clauses that a row says of a full picture
abbrev pub full_picture : ℕ
full_picture = 257

-- places of a run, its start among them
abbrev pub most_places : ℕ
most_places = 65

-- ---- for the caller
-- the numbers of a table for C: its count, and two masks to each of 128 entries
abbrev pub table_numbers : ℕ
table_numbers = 257

-- bytes that the text of any run fits into
abbrev pub report_length : ℕ
report_length = 8192
