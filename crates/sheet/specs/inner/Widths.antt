-- Bounds and widths by name that inner contracts ask for: of the packed array that a sheet is read into, and of a slot of the search's
-- memory.
use Rattle.std.specs.Prelude.{ℕ}

-- ---- the sheet: what all layers ask of it (its ranges stand where the format states them, in Format and Encoding)
-- propositions: the bits of a mask
abbrev pub most_propositions : ℕ
most_propositions = 32

-- moves
abbrev pub most_moves : ℕ
most_moves = 32

-- ---- the packed array: eight clauses, a goal and 32 moves in their sections
-- a list of sets: its count, and two masks to each of eight
abbrev pub sets_width : ℕ
sets_width = 17

-- the effects of a move, four masks to each of eight
abbrev pub effects_width : ℕ
effects_width = 32

-- a move: two masks of its precondition, its count, its effects
abbrev pub move_width : ℕ
move_width = 35

abbrev pub clauses_width : ℕ
clauses_width = 136

abbrev pub moves_width : ℕ
moves_width = 1120

-- where the sections begin, and the length of the whole
abbrev pub oneofs_at : ℕ
oneofs_at = 136

abbrev pub goal_at : ℕ
goal_at = 272

abbrev pub moves_at : ℕ
moves_at = 289

abbrev pub packed_length : ℕ
packed_length = 1409

-- the numbers of a slot of the search's memory: a mark, and a table
abbrev pub memory_slot : ℕ
memory_slot = 258
