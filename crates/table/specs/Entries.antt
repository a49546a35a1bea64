-- The entries of a table: lists of literal sets in two arrays of masks, true and false ones, and the struct `Table` of such a list.
use Rattle.std.specs.Prelude.{List, [], ◌∷◌, map, ℕ, length}
use Rattle.sheet.specs.Limits.{most_entries}
use Rattle.sheet.specs.declared.Literals.{Literals}
use Rattle.sheet.specs.Lists.{pad}
use Rattle.table.specs.declared.Table.{Table}

-- two lists of masks side by side
unfoldable pub pairs : List ℕ → List ℕ → List Literals
pairs [] fs = []
pairs (t ∷ ts) [] = []
pairs (t ∷ ts) (f ∷ fs) = record { trues = t; falses = f } ∷ pairs ts fs

abbrev pub trues_of : List Literals → List ℕ
trues_of es = map (λ (e : Literals). e.trues) es

abbrev pub falses_of : List Literals → List ℕ
falses_of es = map (λ (e : Literals). e.falses) es

-- the first slots of two arrays, so many
unfoldable pub entries_of : ℕ → List ℕ → List ℕ → List Literals
entries_of count ts fs = pairs (pad count 0 ts) (pad count 0 fs)

-- ---- tables
-- the entries of a table: slots from its count on are not read
unfoldable pub entries : Table → List Literals
entries t = entries_of t.count t.trues t.falses

-- the table of a list: unused slots are zero
unfoldable pub table_of : List Literals → Table
table_of es = record { count = length es; trues = pad most_entries 0 (trues_of es); falses = pad most_entries 0 (falses_of es) }

-- ---- a table in lent arrays
abbrev pub lent : ℕ → List ℕ → List ℕ → Table
lent count ts fs = record { count = count; trues = ts; falses = fs }
