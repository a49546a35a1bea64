-- Runs (document 01, "Run, touching moves, picture"): a plan stepped from a table. Place 0 is the start, place k the k-th move.
use Rattle.std.specs.Prelude.{Bool, true, false, List, [], ◌∷◌, map, ℕ, suc, eqb, length}
use Rattle.sheet.specs.declared.Literals.{Literals}
use Rattle.sheet.specs.Literals.{meets}
use Rattle.sheet.specs.Lists.{all_of}
use Rattle.sheet.specs.Problem.{Action, Problem}
use Rattle.table.specs.Minimal.{Outcome, refused, table}
use Rattle.table.specs.Step.{step_table}
use Rattle.table.specs.Picture.{picture, size_of}
use Rattle.table.specs.Calls.{action_at}
use Rattle.plan.specs.declared.Row.{Row}

-- the actions of a plan of move numbers
unfoldable pub actions_of : Problem → List ℕ → List Action
actions_of p plan = map (action_at p) plan

-- each clause of the goal shares a literal with the entry d; then every world of d is in the goal
unfoldable pub in_goal : List Literals → Literals → Bool
in_goal goal d = all_of (λ c. meets c d) goal

-- reached; short: all moves taken, some world of the last table not in the goal; stopped at a place by 24 or 25; full at a place
pub data Verdict : Type 0 where
  reached short : Verdict
  stopped : ℕ → ℕ → Verdict
  full : ℕ → Verdict

abbrev pub ended_in : Bool → Verdict
ended_in true = reached
ended_in false = short

-- what a refused step means for a run: 21 is full, 24 and 25 stop it
abbrev pub halted_by : Bool → ℕ → ℕ → Verdict
halted_by true place number = full place
halted_by false place number = stopped place number

abbrev pub onward : Outcome → ℕ → (List Literals → Verdict) → Verdict
onward (refused number) place next = halted_by (eqb number 21) place number
onward (table t) place next = next t

-- the verdict of the rest of a plan from the table t, `place` moves already taken
abbrev pub run_from : ℕ → List Literals → ℕ → List Action → List Literals → Verdict
run_from cap goal place [] t = ended_in (all_of (in_goal goal) t)
run_from cap goal place (a ∷ plan) t = onward (step_table cap a t) (suc place) (λ u. run_from cap goal (suc place) plan u)

-- ---- the last table it had
abbrev pub table_or : Outcome → List Literals → (List Literals → List Literals) → List Literals
table_or (refused number) t next = t
table_or (table u) t next = next u

abbrev pub last_table : ℕ → List Action → List Literals → List Literals
last_table cap [] t = t
last_table cap (a ∷ plan) t = table_or (step_table cap a t) t (λ u. last_table cap plan u)

-- ---- the rows of the places arrived at: place, entries, picture clauses (257 if the picture is full)
unfoldable pub row_of : ℕ → List Literals → Row
row_of place t = record { place = place; entries = length t; clauses = size_of (picture t) }

abbrev pub rows_or : Outcome → (List Literals → List Row) → List Row
rows_or (refused number) next = []
rows_or (table u) next = next u

abbrev pub rows_from : ℕ → ℕ → List Action → List Literals → List Row
rows_from cap place [] t = row_of place t ∷ []
rows_from cap place (a ∷ plan) t = row_of place t ∷ rows_or (step_table cap a t) (λ u. rows_from cap (suc place) plan u)
