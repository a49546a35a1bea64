-- The call `run` on an accepted sheet with 65 rows or more, by the outcome of the start: its answer, its rows, its last table. For
-- RunRefusals, RunPlaces, RunDemands, CarriedPlans, ExactCalls and the examples. Assumes nothing.
use mathlib.Core.Path.{◌≡◌, ap, ap₂, ◌∙◌}
use mathlib.Core.Bool.{Bool, cond}
use mathlib.Core.List.{List, []}
use mathlib.Core.Option.{none}
use Prim.Native.Nat.{ℕ, ◌≤◌}
use borrow.Author.Tests.{le-ltb}
use Rattle.sheet.specs.declared.Literals.{Literals}
use Rattle.sheet.specs.Problem.{Problem, Statement}
use Rattle.sheet.specs.Format.{Judgement, accepted, sheet_of}
use Rattle.sheet.proofs.Demands.{statement_proper}
use Rattle.table.specs.Minimal.{Described, refused, table}
use Rattle.table.specs.Start.{start_table}
use Rattle.table.specs.Picture.{picture}
use Rattle.table.specs.Entries.{entries, table_of}
use Rattle.table.proofs.laws.answers.CallTables.{entries_table}
use Rattle.plan.specs.declared.RunAnswer.{RunAnswer}
use Rattle.plan.specs.Run.{actions_of, run_from, last_table, rows_from}
use Rattle.plan.specs.Calls.{verdict_of, refused_run, planned, run_of, planned_rows, rows_of}
use Rattle.plan.specs.Demand3.{refused_verdict, run_refused}
use Rattle.plan.specs.inner.RunEnds.{final_clauses}
use Rattle.plan.proofs.laws.runs.StartRuns.{last_arrives}
use Rattle.plan.proofs.laws.runs.CallVerdicts.{never_refused}

module _ (s : List ℕ) (x : Statement) (says : sheet_of s ≡ accepted x) (rows : ℕ) (enough : 65 ≤ rows) where
  abbrev p : Problem
  p = x.problem

  pub run_planned : run_of (sheet_of s) rows ≡ planned x.problem x.plan (start_table 128 x.problem)
  unfolding run_of
  run_planned =
      ap (λ (j : Judgement). run_of j rows) says
      ∙ ap (λ (b : Bool). cond b (refused_run 23 0) (planned x.problem x.plan (start_table 128 x.problem))) (le-ltb rows 65 enough)

  -- ---- the answer where there is a start table
  module _ (t : List Literals) (starts : start_table 128 x.problem ≡ table t) where
    pub run_call : run_of (sheet_of s) rows
        ≡ record {
          verdict = verdict_of (run_from 128 p.goal 0 (actions_of p x.plan) t);
          table = table_of (last_table 128 (actions_of p x.plan) t);
        }
    unfolding planned
    run_call = run_planned ∙ ap (planned x.problem x.plan) starts

    pub rows_call : rows_of (sheet_of s) rows ≡ rows_from 128 0 (actions_of p x.plan) t
    unfolding rows_of planned_rows
    rows_call =
        ap (λ (j : Judgement). rows_of j rows) says
        ∙ ap (λ (b : Bool). cond b [] (planned_rows x.problem x.plan (start_table 128 x.problem))) (le-ltb rows 65 enough)
        ∙ ap (planned_rows x.problem x.plan) starts

    abbrev last : List Literals
    last = last_table 128 (actions_of p x.plan) t

    pub last_described : Described 128 p.n last
    last_described = let h = statement_proper s x says in (last_arrives p h.problem t starts x.plan h.plan.each).described

    pub last_entries : entries (run_of (sheet_of s) rows).table ≡ last
    last_entries = ap (λ (r : RunAnswer). entries r.table) run_call ∙ entries_table last last_described.most

    pub last_clauses : final_clauses (run_of (sheet_of s) rows) ≡ picture last
    unfolding final_clauses run_refused
    last_clauses =
        ap₂ (λ (b : Bool) (es : List Literals). cond b none (picture es))
        (ap (λ (r : RunAnswer). refused_verdict r.verdict) run_call ∙ never_refused (run_from 128 p.goal 0 (actions_of p x.plan) t))
        last_entries

  pub refused_call : (N : ℕ) → start_table 128 x.problem ≡ refused N → run_of (sheet_of s) rows ≡ refused_run N 0
  unfolding planned
  refused_call N e = run_planned ∙ ap (planned x.problem x.plan) e
