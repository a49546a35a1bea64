-- The calls `run` and `search` as functions of what they are given (document 01, "Numbers and their order").
use Rattle.std.specs.Prelude.{cond, List, [], ◌++◌, ℕ, ltb, length, drop}
use Rattle.sheet.specs.Limits.{most_entries, most_places}
use Rattle.sheet.specs.declared.Literals.{Literals}
use Rattle.sheet.specs.Lists.{pad}
use Rattle.sheet.specs.Problem.{Problem}
use Rattle.sheet.specs.Format.{Judgement, accepted, refused}
use Rattle.table.specs.Minimal.{Outcome}
use Rattle.table.specs.Start.{start_table}
use Rattle.table.specs.Entries.{table_of}
use Rattle.plan.specs.declared.Row.{Row}
use Rattle.plan.specs.declared.RunAnswer.{RunAnswer}
use Rattle.plan.specs.declared.Verdict as case
use Rattle.plan.specs.declared.SearchAnswer.{SearchAnswer}
use Rattle.plan.specs.Run.{Verdict, run_from, last_table, rows_from, actions_of}
use Rattle.plan.specs.Search.{Answer, found, full_at, nothing, first_of, plans_up_to}
use Rattle.plan.specs.Cases.{RunEnd, verdict_case, SearchEnd, kind_case}

-- ---- run: a fault of the sheet; 23 for fewer than 65 rows; 20 or 21 of the start; then the plan. Refused: a table with count 0 and all
-- slots zero, and no row written how a run that was not refused ended
unfoldable pub verdict_of : Verdict → case.Verdict
verdict_of v = verdict_case (RunEnd.ended v)

unfoldable pub refused_run : ℕ → ℕ → RunAnswer
refused_run number position = record { verdict = verdict_case (RunEnd.refused number position); table = table_of [] }

-- the run of any plan of a problem
unfoldable pub planned : Problem → List ℕ → Outcome → RunAnswer
planned p plan (Outcome.refused number) = refused_run number 0
planned p plan (Outcome.table t) =
    record {
      verdict = verdict_of (run_from most_entries p.goal 0 (actions_of p plan) t);
      table = table_of (last_table most_entries (actions_of p plan) t);
    }

unfoldable pub run_of : Judgement → ℕ → RunAnswer
run_of (refused number position) rows = refused_run number position
run_of (accepted x) rows = cond (ltb rows most_places) (refused_run 23 0)
    (planned x.problem x.plan (start_table most_entries x.problem))

-- the rows to write, from the first on; the others are kept
unfoldable pub planned_rows : Problem → List ℕ → Outcome → List Row
planned_rows p plan (Outcome.refused number) = []
planned_rows p plan (Outcome.table t) = rows_from most_entries 0 (actions_of p plan) t

unfoldable pub rows_of : Judgement → ℕ → List Row
rows_of (refused number position) rows = []
rows_of (accepted x) rows = cond (ltb rows most_places) [] (planned_rows x.problem x.plan (start_table most_entries x.problem))

-- the lent rows once they are written: those of the run, and the others as they were
unfoldable pub rows_after : Judgement → List Row → List Row
rows_after sheet rows = rows_of sheet (length rows) ++ drop (length (rows_of sheet (length rows))) rows

-- ---- search: a fault of the sheet; 8 for a limit above 8; 20 or 21 of the start; then the plans in order
unfoldable pub refused_search : ℕ → ℕ → SearchAnswer
refused_search number position = record { kind = kind_case (SearchEnd.refused number position); plan = pad 8 0 []; length = 0 }

-- the plan of an answer, with no move for none
abbrev pub plan_from : Answer → List ℕ
plan_from (found plan) = plan
plan_from (full_at plan place) = plan
plan_from nothing = []

-- eight bytes with the length; bytes past it are zero, and for none the length is 0
unfoldable pub answered : Answer → SearchAnswer
answered a = record { kind = kind_case (SearchEnd.answered a); plan = pad 8 0 (plan_from a); length = length (plan_from a) }

-- the first plan of at most `limit` moves that is reached or full
unfoldable pub searched_from : Problem → ℕ → List Literals → Answer
searched_from p limit t = first_of (λ plan. run_from most_entries p.goal 0 (actions_of p plan) t) (plans_up_to (length p.actions) limit)

unfoldable pub searched : Problem → ℕ → Outcome → SearchAnswer
searched p limit (Outcome.refused number) = refused_search number 0
searched p limit (Outcome.table t) = answered (searched_from p limit t)

unfoldable pub search_of : Judgement → ℕ → SearchAnswer
search_of (refused number position) limit = refused_search number position
search_of (accepted x) limit = cond (ltb 8 limit) (refused_search 8 0) (searched x.problem limit (start_table most_entries x.problem))
