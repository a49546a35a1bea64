-- TH4 for the call `run`, whatever the bytes and the rows: each number exactly on its own condition, in document 01's order, and what comes
-- back beside it; a run that is not refused has rows enough and a start table. For `run` and `back` in proofs/Demands. Assumes nothing.
use mathlib.Core.Path.{◌≡◌, refl, sym, ap, ◌∙◌}
use mathlib.Core.Bool.{Bool, true, false, cond, true≢false}
use mathlib.Core.List.{List, []}
use mathlib.Core.Logic.{◌↔◌}
use Prim.Native.Nat.{ℕ, ◌≤◌, ◌<◌}
use native.Mathlib.Omega.{arith}
use lib.Dec.{ltb}
use lib.ListN.{length}
use borrow.Author.Tests.{ltb-true, ltb-false, lt-ltb}
use Rattle.sheet.specs.declared.Literals.{Literals}
use Rattle.sheet.specs.Problem.{Problem, Statement}
use Rattle.sheet.specs.Format.{Judgement, accepted, refused, sheet_of}
use Rattle.sheet.specs.Faults.{Says}
use Rattle.sheet.specs.Calls.{Refused}
use Rattle.table.specs.Minimal.{Outcome}
use Rattle.table.specs.Start.{start_table}
use Rattle.table.specs.Entries.{table_of}
use Rattle.table.specs.Calls.{start_of}
use Rattle.table.specs.CallWords.{AsDescribed, ZeroAfter}
use Rattle.table.proofs.Demands as tables
use Rattle.table.proofs.laws.answers.CallTables.{entries_table, zero_after}
use Rattle.plan.specs.declared.Row.{Row}
use Rattle.plan.specs.declared.Verdict.TheVariants as ran
use Rattle.plan.specs.Run.{actions_of, run_from, last_table}
use Rattle.plan.specs.Calls.{refused_run, planned, run_of, planned_rows, rows_of, rows_after}
use Rattle.plan.specs.Demand3.{refused_verdict, full_verdict, run_full, run_refused}
use Rattle.plan.specs.declared.RunAnswer.{RunAnswer}
use Rattle.plan.proofs.laws.runs.CallVerdicts.{never_refused, not_refused}
use Rattle.plan.proofs.laws.runs.CallRuns.{run_planned, run_call, last_described}
use Rattle.plan.proofs.laws.runs.StartOutcomes.{apart, start_refused, refused_by_start}

-- ---- the run of a plan by the outcome of the start
module _ (p : Problem) (plan : List ℕ) where
  planned_refused : (o : Outcome) (k q : ℕ) → ((planned p plan o).verdict ≡ ran.Refused k q) ↔ ((q ≡ 0) × (o ≡ Outcome.refused k))
  unfolding planned refused_run
  planned_refused = refused_by_start ran.Refused (λ i j k q e. (cc, cc)) (λ o. (planned p plan o).verdict) (λ k. refl) (λ t. not_refused _)

  planned_given : (o : Outcome) → ((k q : ℕ) → (planned p plan o).verdict ≡ ran.Refused k q → ⊥)
      ↔ ((t : List Literals) × (o ≡ Outcome.table t))
  unfolding planned refused_run
  planned_given (Outcome.refused j) = (λ h. absurd (h j 0 refl), λ h. absurd (apart h.1))
  planned_given (Outcome.table t) = (λ h. (t, refl), λ h. not_refused _)

  planned_back : (o : Outcome) (k q : ℕ) → (planned p plan o).verdict ≡ ran.Refused k q → ((planned p plan o).table ≡ table_of [])
      × (planned_rows p plan o ≡ [])
  unfolding planned refused_run planned_rows
  planned_back (Outcome.refused j) k q e = (refl, refl)
  planned_back (Outcome.table t) k q e = absurd (not_refused _ k q e)

-- no row is written: every row is kept
kept : (j : Judgement) (given : List Row) → rows_of j (length given) ≡ [] → rows_after j given ≡ given
unfolding rows_after
kept j given e = rw e

-- a refused run has an empty table and writes no row
pub run_none : (j : Judgement) (rows k q : ℕ) → (run_of j rows).verdict ≡ ran.Refused k q → ((run_of j rows).table ≡ table_of [])
    × (rows_of j rows ≡ [])
unfolding run_of rows_of refused_run
run_none (refused i p) rows k q e = (refl, refl)
run_none (accepted x) rows k q e = go (ltb rows 65) (start_table 128 x.problem) e
  where
    go : (b : Bool) (o : Outcome) → (cond b (refused_run 23 0) (planned x.problem x.plan o)).verdict ≡ ran.Refused k q
        → ((cond b (refused_run 23 0) (planned x.problem x.plan o)).table ≡ table_of [])
        × (cond b [] (planned_rows x.problem x.plan o) ≡ [])
    go true o e = (refl, refl)
    go false o e = planned_back x.problem x.plan o k q e

-- ---- the numbers in their order
-- a fault of the sheet comes first
pub run_fault : (s : List ℕ) (rows k p : ℕ) → sheet_of s ≡ refused k p → run_of (sheet_of s) rows ≡ refused_run k p
unfolding run_of
run_fault s rows k p e = rw e

-- and every row is kept
pub run_fault_rows : (s : List ℕ) (given : List Row) (k p : ℕ) → sheet_of s ≡ refused k p → rows_after (sheet_of s) given ≡ given
unfolding rows_of
run_fault_rows s given k p e = kept (sheet_of s) given (rw e)

module _ (s : List ℕ) (x : Statement) (says : sheet_of s ≡ accepted x) where
  -- 23: fewer than 65 rows
  pub run_23 : (rows : ℕ) → rows < 65 → run_of (sheet_of s) rows ≡ refused_run 23 0
  unfolding run_of
  run_23 rows h = rw (says, lt-ltb rows 65 h)

  -- then 20 or 21, by the working order of the start (TH2)
  pub run_number : (rows : ℕ) → 65 ≤ rows → (k q : ℕ) → ((run_of (sheet_of s) rows).verdict ≡ ran.Refused k q)
      ↔ ((q ≡ 0) × (start_table 128 x.problem ≡ Outcome.refused k))
  run_number rows h k q = rw (run_planned s x says rows h) (planned_refused x.problem x.plan (start_table 128 x.problem) k q)

  -- not refused exactly if none of these holds
  pub run_given : (rows : ℕ) → 65 ≤ rows
      → ((k q : ℕ) → (run_of (sheet_of s) rows).verdict ≡ ran.Refused k q → ⊥)
      ↔ ((t : List Literals) × (start_table 128 x.problem ≡ Outcome.table t))
  run_given rows h = rw (run_planned s x says rows h) (planned_given x.problem x.plan (start_table 128 x.problem))

  -- 23 is answered for too few rows alone
  pub run_23_only : (rows q : ℕ) → (run_of (sheet_of s) rows).verdict ≡ ran.Refused 23 q → rows < 65
  run_23_only rows q e = go (ltb rows 65) refl
    where
      go : (b : Bool) → ltb rows 65 ≡ b → rows < 65
      go true f = ltb-true rows 65 f
      go false f = absurd (omega (arith, (start_refused x.problem ((run_number rows (ltb-false rows 65 f) 23 q).0 e).1).1))

-- a refused run gives a table with count 0 and all slots zero
pub run_back : (s : List ℕ) (rows k q : ℕ) → (run_of (sheet_of s) rows).verdict ≡ ran.Refused k q → (run_of (sheet_of s) rows).table ≡
    table_of []
run_back s rows k q e = (run_none (sheet_of s) rows k q e).0

-- and keeps every row as it was given
pub run_rows_kept : (s : List ℕ) (given : List Row) (k q : ℕ) → (run_of (sheet_of s) (length given)).verdict ≡ ran.Refused k q
    → rows_after (sheet_of s) given ≡ given
run_rows_kept s given k q e = kept (sheet_of s) given (run_none (sheet_of s) (length given) k q e).1

-- ---- a run that is not refused
module _ (s : List ℕ) (x : Statement) (says : Says s x) where
  module _ (rows : ℕ) where
    abbrev run : RunAnswer
    run = run_of (sheet_of s) rows

    pub refused_run_lem : (k q : ℕ) → run.verdict ≡ ran.Refused k q → run_refused run ≡ true
    unfolding run_refused refused_verdict
    refused_run_lem k q e = ap refused_verdict e

    pub full_run : run.verdict ≡ ran.Refused 21 0 → run_full run ≡ true
    unfolding run_full full_verdict
    full_run e = ap full_verdict e

    pub unrefused : run_refused run ≡ false → (k q : ℕ) → run.verdict ≡ ran.Refused k q → ⊥
    unrefused f k q e = true≢false (sym (refused_run_lem k q e) ∙ f)

    -- a run that is not refused has rows enough and a start table
    pub rows_enough : run_refused run ≡ false → 65 ≤ rows
    rows_enough f = go (ltb rows 65) refl
      where
        go : (b : Bool) → ltb rows 65 ≡ b → 65 ≤ rows
        go true e = absurd (unrefused f 23 0
            (unfold refused_run in ap (λ (r : RunAnswer). r.verdict) (run_23 s x says rows (ltb-true rows 65 e))))
        go false e = ltb-false rows 65 e

    pub run_starts : run_refused run ≡ false → (t : List Literals) × (start_table 128 x.problem ≡ Outcome.table t)
    run_starts f = (run_given s x says rows (rows_enough f)).0 (unrefused f)

    -- one that has them is not refused
    pub started_run : 65 ≤ rows → (t : List Literals) → start_table 128 x.problem ≡ Outcome.table t → run_refused run ≡ false
    unfolding run_refused
    started_run enough t e = ap (λ (r : RunAnswer). refused_verdict r.verdict) (run_call s x says rows enough t e)
        ∙ never_refused (run_from 128 x.problem.goal 0 (actions_of x.problem x.plan) t)

-- ---- as the demands say it
module _ (s : List ℕ) (x : Statement) (says : Says s x) where
  pub run_few : (rows : ℕ) → ((run_of (sheet_of s) rows).verdict ≡ ran.Refused 23 0) ↔ (rows < 65)
  unfolding refused_run
  run_few rows = (run_23_only s x says rows 0, λ h. ap (λ (r : RunAnswer). r.verdict) (run_23 s x says rows h))

  pub run_start : (rows : ℕ) → 65 ≤ rows → (k q : ℕ) → ((run_of (sheet_of s) rows).verdict ≡ ran.Refused k q)
      ↔ ((start_of (sheet_of s)).answer ≡ Refused k q)
  run_start rows h k q =
      let i = run_number s x says rows h k q in
      let j = tables.start_number s x says k q in
      (λ e. j.1 (i.0 e), λ e. i.1 (j.0 e))

  -- what a run returns
  pub run_table_lem : (rows : ℕ) → run_refused (run_of (sheet_of s) rows) ≡ false → AsDescribed x (run_of (sheet_of s) rows).table
      × ZeroAfter (run_of (sheet_of s) rows).table
  run_table_lem rows f =
      let enough = rows_enough s x says rows f in
      let k = run_starts s x says rows f in
      let last = last_table 128 (actions_of x.problem x.plan) k.0 in
      let d = last_described s x says rows enough k.0 k.1 in
      rw (ap (λ (r : RunAnswer). r.table) (run_call s x says rows enough k.0 k.1))
      (rw (entries_table last d.most) d, zero_after last d.most)
