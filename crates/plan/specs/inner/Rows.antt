-- The rows of a run from its plain numbers.
use Rattle.std.specs.Prelude.{List, [], ◌∷◌, ◌++◌, ℕ, zero, suc, get_or}
use Rattle.plan.specs.declared.Row.{Row}
use Rattle.plan.specs.declared.Counts.{Counts}

-- the row of a place: the place, the entries of its table and the clauses of its picture
abbrev pub row_at : Counts → ℕ → Row
row_at c place = record { place = place; entries = get_or c.entries place 0; clauses = get_or c.clauses place 0 }

-- the rows of the places below one
abbrev pub rows_below : Counts → ℕ → List Row
rows_below c zero = []
rows_below c (suc place) = rows_below c place ++ (row_at c place ∷ [])

-- the rows of the places arrived at
abbrev pub rows_in : Counts → List Row
rows_in c = rows_below c c.count
