-- Words for statements about the calls on tables, on a sheet that says x: moves and tables of that sheet, and the worlds of a table.
use Rattle.std.specs.Prelude.{◌≡◌, not, List, [], ◌∷◌, map, ℕ, ◌^◌, ◌<◌, T, length}
use Rattle.std.proofs.Math.Option.{Option, none}
use Rattle.sheet.specs.Limits.{most_entries}
use Rattle.sheet.specs.declared.Literals.{Literals}
use Rattle.sheet.specs.Literals.{within, consistent, state}
use Rattle.sheet.specs.Lists.{collect}
use Rattle.sheet.specs.Problem.{Problem, Statement}
use Rattle.table.specs.declared.Table.{Table}
use Rattle.table.specs.Worlds.{results, step_world, Starting}
use Rattle.table.specs.Minimal.{In, Described, put_all}
use Rattle.table.specs.Start.{start_clauses, Stops}
use Rattle.table.specs.Step.{pieces, image}
use Rattle.table.specs.Entries.{entries, table_of}
use Rattle.table.specs.Calls.{action_at}

-- the move of a number is on the sheet
abbrev pub OnSheet : Statement → ℕ → Type 0
OnSheet x index = index < length x.problem.actions

-- the table is as document 01 describes it
abbrev pub AsDescribed : Statement → Table → Type 0
AsDescribed x t = Described most_entries x.problem.n (entries t)

-- its unused slots are zero
abbrev pub ZeroAfter : Table → Type 0
ZeroAfter t = t ≡ table_of (entries t)

-- ---- worlds
-- w is a starting world of the problem
abbrev pub Starts : Problem → ℕ → Type 0
Starts p w = (w < 2 ^ p.n) × Starting p w

-- w is a world of the table
abbrev pub WorldOf : Statement → Table → ℕ → Type 0
WorldOf x t w = (w < 2 ^ x.problem.n) × In x.problem.n (entries t) w

-- some world of the table lacks the precondition of a move
abbrev pub Unsure : Statement → Table → ℕ → Type 0
Unsure x t index = (w : ℕ) × WorldOf x t w × T (not (within (action_at x.problem index).precondition (state x.problem.n w)))

-- the results of a move contradict in some world of the table
abbrev pub Contradictory : Statement → Table → ℕ → Type 0
Contradictory x t index = (w : ℕ) × WorldOf x t w × T
    (not (consistent (results (action_at x.problem index).effects (state x.problem.n w))))

-- some world of the table cannot take a move
abbrev pub Untaken : Statement → Table → ℕ → Type 0
Untaken x t index = (w : ℕ) × WorldOf x t w × (step_world x.problem.n (action_at x.problem index) w ≡ none)

-- ---- working order
-- the start comes to o at some clause, and to a table at every clause before it: empty, some [], is 20, full, none, is 21
abbrev pub StartStops : Problem → Option (List Literals) → Type 0
StartStops p o = Stops most_entries o (start_clauses p) (p.known ∷ [])

-- the images of the pieces of a table by a move, in working order
abbrev pub images : Statement → Table → ℕ → List Literals
images x t index = map (image (action_at x.problem index).effects) (collect (pieces (action_at x.problem index).effects) (entries t))

-- and put in that order into a new table; none: it fills
abbrev pub put_images : Statement → Table → ℕ → Option (List Literals)
put_images x t index = put_all most_entries (images x t index) []
