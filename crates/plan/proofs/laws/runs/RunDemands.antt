-- TH5 by the starting worlds: what the verdict of a run that is not full says of them, the moves they take, the worlds they become. For
-- `run_worlds` in proofs/Demands. Assumes nothing.
use mathlib.Core.Path.{◌≡◌, refl, sym, ap, subst, ◌∙◌}
use mathlib.Core.Bool.{false, true≢false}
use mathlib.Core.List.{List}
use mathlib.Core.Logic.{inl, inr, ◌↔◌}
use Prim.Native.Nat.{ℕ, ◌^◌, ◌≤◌, ◌<◌}
use lib.ListN.{length, take}
use Rattle.sheet.specs.declared.Literals.{Literals}
use Rattle.sheet.specs.Lists.{All}
use Rattle.sheet.specs.Problem.{Action, Problem, Statement}
use Rattle.sheet.specs.Format.{sheet_of}
use Rattle.sheet.specs.Faults.{Says}
use Rattle.sheet.specs.Encoding.{ProperProblem}
use Rattle.sheet.proofs.Demands.{statement_proper}
use Rattle.table.specs.Worlds.{Starting}
use Rattle.table.specs.Minimal.{In, Outcome}
use Rattle.table.specs.Start.{start_table}
use Rattle.table.specs.Entries.{entries}
use Rattle.table.specs.CallWords.{Starts}
use Rattle.table.proofs.Demands as tables
use Rattle.plan.specs.declared.RunAnswer.{RunAnswer}
use Rattle.plan.specs.declared.Verdict as case
use Rattle.plan.specs.Run.{actions_of, Verdict, full, run_from}
use Rattle.plan.specs.inner.TableRuns.{moves_taken}
use Rattle.plan.specs.Calls.{verdict_of, run_of}
use Rattle.plan.specs.Meaning.{Ends, Every}
use Rattle.plan.specs.inner.RunEnds.{Means}
use Rattle.plan.specs.Demand3.{taken_by, full_verdict, run_full, run_refused}
use Rattle.plan.specs.DemandWords.{taken, Becomes}
use Rattle.plan.proofs.laws.runs.StartRuns.{taken_by_lem, verdict_is, last_arrives}
use Rattle.plan.proofs.laws.runs.CallVerdicts.{not_full, not_refused, verdict_injective, taken_actions}
use Rattle.plan.proofs.laws.runs.CallRuns.{run_call, last_entries}
use Rattle.plan.proofs.laws.runs.RunRefusals.{run_number, full_run, rows_enough, run_starts, started_run}
use Rattle.plan.proofs.laws.runs.StartOutcomes.{Kinds}

module _ (s : List ℕ) (x : Statement) (says : Says s x) (rows : ℕ) (given : run_refused (run_of (sheet_of s) rows) ≡ false) where
  abbrev p : Problem
  p = x.problem

  abbrev plan : List Action
  plan = actions_of x.problem x.plan

  run_hp : ProperProblem p
  run_hp = (statement_proper s x says).problem

  hq : All (λ i. i < length p.actions) x.plan
  hq = (statement_proper s x says).plan.each

  abbrev t : List Literals
  t = (run_starts s x says rows given).0

  starts : start_table 128 x.problem ≡ Outcome.table t
  starts = (run_starts s x says rows given).1

  abbrev verdict : Verdict
  verdict = run_from 128 x.problem.goal 0 (actions_of x.problem x.plan) t

  call_verdict : (run_of (sheet_of s) rows).verdict ≡ verdict_of verdict
  call_verdict = ap (λ (r : RunAnswer). r.verdict)
      (run_call s x says rows (rows_enough s x says rows given) t starts)

  -- by the starting worlds
  run_is : run_full (run_of (sheet_of s) rows) ≡ false → (v : Verdict) → ((k : ℕ) → v ≡ full k → ⊥)
      → ((run_of (sheet_of s) rows).verdict ≡ verdict_of v) ↔ Means p.n p.goal (Starting p) plan v
  unfolding run_full
  run_is f v g = (
    λ e. law.0 (verdict_injective verdict v (sym call_verdict ∙ e)),
    λ h. call_verdict ∙ ap verdict_of (law.1 h),
  )
    where
      law : (verdict ≡ v) ↔ Means p.n p.goal (Starting p) plan v
      law = verdict_is p run_hp t starts x.plan hq
          (not_full verdict (ap full_verdict (sym call_verdict) ∙ f)) v g

  -- the moves taken
  taken_first : actions_of p (taken s x rows) ≡ take (moves_taken 128 plan t) plan
  taken_first =
      taken_actions p (run_of (sheet_of s) rows).verdict x.plan
      ∙ ap (λ (v : case.Verdict). taken_by v plan) call_verdict
      ∙ taken_by_lem 128 p.goal plan t plan refl

  pub run_takes : Every p.n (Starting p) Ends (actions_of p (taken s x rows))
  run_takes = subst (Every p.n (Starting p) Ends) (sym taken_first)
      (last_arrives p run_hp t starts x.plan hq).defined

  pub run_comes : (v : ℕ) → v < 2 ^ p.n → In p.n (entries (run_of (sheet_of s) rows).table) v ↔ Becomes s x rows v
  run_comes v l = rw (last_entries s x says rows (rows_enough s x says rows given) t starts, taken_first)
      ((last_arrives p run_hp t starts x.plan hq).worlds v l)

-- ---- a run that is not full, whether or not its start gives a table: it does where some starting world is known from what the verdict
-- says
module _ (s : List ℕ) (x : Statement) (says : Says s x) (rows : ℕ) (enough : 65 ≤ rows)
    (unfull : run_full (run_of (sheet_of s) rows) ≡ false)
    (v : Verdict) (not-that : (k : ℕ) → v ≡ full k → ⊥) where
  abbrev Meant : Type 0
  Meant = Means x.problem.n x.problem.goal (Starting x.problem) (actions_of x.problem x.plan) v

  pub run_means : (Meant → (w : ℕ) × Starts x.problem w) → ((run_of (sheet_of s) rows).verdict ≡ verdict_of v) ↔ Meant
  run_means has = go (tables.start_kind 128 x.problem)
    where
      go : Kinds x.problem → ((run_of (sheet_of s) rows).verdict ≡ verdict_of v) ↔ Meant
      go (inl e) = (
        λ h. absurd (not_refused v 20 0 (sym h ∙ (run_number s x says rows enough 20 0).1 (refl, e))),
        λ m. let k = has m in absurd (tables.start_20 x.problem (statement_proper s x says).problem 128 e k.0 k.1.0 k.1.1),
      )
      go (inr (inl e)) = absurd (true≢false (sym (full_run s x says rows ((run_number s x says rows enough 21 0).1 (refl, e))) ∙ unfull))
      go (inr (inr t)) = run_is s x says rows (started_run s x says rows enough t.0 t.1) unfull v not-that
