-- The calls `start` and `step` as functions of what they are given (document 01, "Numbers and their order").
use Rattle.std.specs.Prelude.{Bool, true, false, [], ℕ, ltb, length, get_or}
use Rattle.sheet.specs.Limits.{most_entries}
use Rattle.sheet.specs.Calls.{Accepted, Refused}
use Rattle.sheet.specs.Literals.{no_literal}
use Rattle.sheet.specs.Problem.{Action, Problem}
use Rattle.sheet.specs.Format.{Judgement, accepted, refused}
use Rattle.table.specs.declared.Table.{Table}
use Rattle.table.specs.declared.TableAnswer.{TableAnswer}
use Rattle.table.specs.Minimal.{described, Outcome}
use Rattle.table.specs.Start.{start_table}
use Rattle.table.specs.Step.{step_table}
use Rattle.table.specs.Entries.{entries, table_of}

-- the outcome with the table; a refusal by its number, at position 0, with the table t
unfoldable pub or_given : Table → Outcome → TableAnswer
or_given t (Outcome.refused number) = record { answer = Refused number 0; table = t }
or_given t (Outcome.table u) = record { answer = Accepted; table = table_of u }

-- ---- start: a fault of the sheet; then 20 or 21, whichever comes first. Refused: a table with count 0 and all slots zero
unfoldable pub start_of : Judgement → TableAnswer
start_of (refused number position) = record { answer = Refused number position; table = table_of [] }
start_of (accepted x) = or_given (table_of []) (start_table most_entries x.problem)

-- ---- step: a fault of the sheet; 7; 22; 24; 25; 21. Refused: the given table
-- the move of a number
unfoldable pub action_at : Problem → ℕ → Action
action_at p index = get_or p.actions index (record { precondition = no_literal; effects = [] })

abbrev pub step_known : Bool → Action → Table → TableAnswer
step_known false a t = record { answer = Refused 22 0; table = t }
step_known true a t = or_given t (step_table most_entries a (entries t))

abbrev pub step_move : Bool → ℕ → Action → Table → TableAnswer
step_move false n a t = record { answer = Refused 7 0; table = t }
step_move true n a t = step_known (described most_entries n (entries t)) a t

unfoldable pub step_of : Judgement → Table → ℕ → TableAnswer
step_of (refused number position) t index = record { answer = Refused number position; table = t }
step_of (accepted x) t index = step_move (ltb index (length x.problem.actions)) x.problem.n (action_at x.problem index) t
