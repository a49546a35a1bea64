-- Any plan of a problem, run from its start table: the verdict by the tables T_k (`by_reached` and so on) and by the starting worlds
-- (`verdict_is`). For RunPlaces and RunDemands (TH5), StartSearches (TH6) and ExactCalls. Assumes nothing.
use mathlib.Core.Path.{◌≡◌, refl, sym, ap, subst, ◌∙◌}
use mathlib.Core.Bool.{Bool, true, false}
use mathlib.Core.List.{List}
use mathlib.Core.Logic.{◌⊎◌, inl, inr, ◌↔◌}
use mathlib.Core.Option.{some}
use Prim.Native.Nat.{ℕ, suc, ◌+◌, ◌-◌, ◌^◌, ◌<◌}
use native.Mathlib.Omega.{arith}
use lib.Dec.{eqb}
use lib.ListN.{length, take}
use lib.Seq.{take-length}
use Rattle.sheet.specs.declared.Literals.{Literals}
use Rattle.sheet.specs.Literals.{Proper}
use Rattle.sheet.specs.Lists.{All, all_of}
use Rattle.sheet.specs.Problem.{Action, Problem}
use Rattle.sheet.specs.Encoding.{ProperList, ProperAction, ProperProblem}
use Rattle.sheet.proofs.laws.base.Bools.{T_true, T_false, true_T, false_T, not_in}
use Rattle.sheet.proofs.laws.base.ListFacts.{all_map, all_imaged}
use Rattle.table.specs.Worlds.{Starting, InGoal}
use Rattle.table.specs.Minimal.{In, Described, refused, table}
use Rattle.table.specs.Start.{start_table}
use Rattle.table.specs.Calls.{action_at}
use Rattle.table.proofs.Demands.{start_table_lem}
use Rattle.table.proofs.laws.steps.StepWorlds as stepping
use Rattle.table.proofs.laws.steps.StepWorlds.{code_is, table_refused, at_proper}
use Rattle.plan.specs.Run.{actions_of, in_goal, Verdict, reached, short, stopped, full, ended_in, halted_by, run_from, last_table}
use Rattle.plan.specs.inner.TableRuns.{moves_taken, table_at, Refuses}
use Rattle.plan.specs.Calls.{verdict_of}
use Rattle.plan.specs.inner.RunEnds.{Means}
use Rattle.plan.specs.Demand3.{taken_by}
use Rattle.plan.proofs.laws.runs.GoalWorlds.{goal_each, goal_lacks, goal_entries}
use Rattle.plan.proofs.laws.runs.RunTables.{Story, story, run_ended, run_refused_lem, last_at, taken_all, taken_refused}
use Rattle.plan.proofs.laws.runs.PlanWorlds.{all_next}
use Rattle.plan.proofs.laws.runs.ArrivedWorlds.{Arrives, arrives}
use Rattle.plan.proofs.laws.runs.VerdictWorlds.{run_means}
use Rattle.plan.proofs.laws.runs.VerdictClasses.{one_verdict}

-- ---- the moves of a plan are the sheet's
plan_proper : (p : Problem) → ProperProblem p → (q : List ℕ) → All (λ i. i < length p.actions) q
    → All (ProperAction p.n) (actions_of p q)
unfolding actions_of
plan_proper p hp q h = all_imaged (action_at p) (ProperAction p.n) q
    (all_map (λ i. i < length p.actions) (λ i. ProperAction p.n (action_at p i)) (at_proper p hp) q h)

-- ---- the moves taken, by the verdict alone: of any list as long as the plan
pub taken_by_lem : {A : Type 0} (cap : ℕ) (goal : List Literals) (plan : List Action) (t : List Literals) (q : List A) → length q ≡ length
    plan
    → taken_by (verdict_of (run_from cap goal 0 plan t)) q ≡ take (moves_taken cap plan t) q
unfolding taken_by verdict_of
taken_by_lem cap goal plan t q same = go (story cap plan t)
  where
    all : (b : Bool) → taken_by (verdict_of (ended_in b)) q ≡ q
    all true = refl
    all false = refl

    some_of : (b : Bool) (k N : ℕ) → taken_by (verdict_of (halted_by b (suc k) N)) q ≡ take k q
    some_of true k N = let i : suc k - 1 ≡ k = omega arith in ap (λ (j : ℕ). take j q) i
    some_of false k N = let i : suc k - 1 ≡ k = omega arith in ap (λ (j : ℕ). take j q) i

    go : Story cap plan t → taken_by (verdict_of (run_from cap goal 0 plan t)) q ≡ take (moves_taken cap plan t) q
    go (inl x) =
        ap (λ (v : Verdict). taken_by (verdict_of v) q) (run_ended cap goal 0 plan t x.0 x.1) ∙ all (all_of (in_goal goal) x.0)
        ∙ sym (ap (λ (i : ℕ). take i q) (taken_all cap plan t x.0 x.1 ∙ sym same) ∙ take-length q)
    go (inr x) =
        let i : 0 + x.0 ≡ x.0 = omega arith in
        ap (λ (v : Verdict). taken_by (verdict_of v) q) (run_refused_lem cap goal 0 plan t x.0 x.1 x.2)
        ∙ some_of (eqb x.1 21) (0 + x.0) x.1
        ∙ ap (λ (j : ℕ). take j q) (i ∙ sym (taken_refused cap plan t x.0 x.1 x.2))

-- ---- any plan q of a problem with a start table
module _ (p : Problem) (hp : ProperProblem p) (t : List Literals) (starts : start_table 128 p ≡ table t) (q : List ℕ)
    (hq : All (λ i. i < length p.actions) q) where
  abbrev plan : List Action
  plan = actions_of p q

  abbrev verdict : Verdict
  verdict = run_from 128 p.goal 0 (actions_of p q) t

  moves : All (ProperAction p.n) plan
  moves = plan_proper p hp q hq

  goals : All (Proper p.n) p.goal
  goals = all_map (ProperList p.n 1 8) (Proper p.n) (λ c h. h.proper) p.goal hp.goal.each

  first : Described 128 p.n t
  first = (start_table_lem p hp 128 t starts).0 (omega arith)

  -- T_k by the starting worlds
  pub place_arrives : (k : ℕ) (u : List Literals) → table_at 128 k plan t ≡ some u → Arrives 128 p.n (Starting p) plan k u
  place_arrives = arrives 128 p.n hp.n_most plan moves t first (Starting p) (start_table_lem p hp 128 t starts).1

  pub last_arrives : Arrives 128 p.n (Starting p) plan (moves_taken 128 plan t) (last_table 128 plan t)
  last_arrives = place_arrives (moves_taken 128 plan t) (last_table 128 plan t) (last_at 128 plan t)

  -- ---- (a) by the tables
  abbrev pub Stopped : ℕ → ℕ → Type 0
  Stopped k N = (j : ℕ) × (k ≡ suc j) × Refuses 128 plan t j N × ((N ≡ 24) ⊎ (N ≡ 25))

  abbrev pub Filled : ℕ → Type 0
  Filled k = (j : ℕ) × (k ≡ suc j) × Refuses 128 plan t j 21

  abbrev pub Reached : Type 0
  Reached = (u : List Literals) × (table_at 128 (length plan) plan t ≡ some u)
      × ((w : ℕ) → w < 2 ^ p.n → In p.n u w → InGoal p.n p.goal w)

  abbrev pub Short : Type 0
  Short = (u : List Literals) × (table_at 128 (length plan) plan t ≡ some u)
      × ((w : ℕ) × (w < 2 ^ p.n) × In p.n u w × (InGoal p.n p.goal w → ⊥))

  Meant : Verdict → Type 0
  Meant reached = Reached
  Meant short = Short
  Meant (stopped k N) = Stopped k N
  Meant (full k) = Filled k

  meant : Meant verdict
  unfolding Meant
  meant = go (story 128 plan t)
    where
      ends : (u : List Literals) → table_at 128 (length plan) plan t ≡ some u → (b : Bool) → all_of (in_goal p.goal) u ≡ b
          → Meant (ended_in b)
      ends u h true e = (u, h, λ w l i. goal_each p.n p.goal u (true_T (all_of (in_goal p.goal) u) e) w i)
      ends u h false e =
          let x = goal_lacks p.n p.goal u goals (place_arrives (length plan) u h).described.proper
          (false_T (all_of (in_goal p.goal) u) e) in
          (u, h, (x.0, x.1.1.0, x.1.0, x.1.1.1))

      by : (k N : ℕ) → Refuses 128 plan t k N → stepping.Kind (refused N) → Meant (halted_by (eqb N 21) (suc k) N)
      by k N r (inl f) = let e = code_is f in subst (λ (c : ℕ). Meant (halted_by (eqb c 21) (suc k) c)) (sym e)
          (k, refl, subst (Refuses 128 plan t k) e r, inl refl)
      by k N r (inr (inl f)) = let e = code_is f in subst (λ (c : ℕ). Meant (halted_by (eqb c 21) (suc k) c)) (sym e)
          (k, refl, subst (Refuses 128 plan t k) e r, inr refl)
      by k N r (inr (inr (inl f))) = let e = code_is f in subst (λ (c : ℕ). Meant (halted_by (eqb c 21) (suc k) c)) (sym e)
          (k, refl, subst (Refuses 128 plan t k) e r)
      by k N r (inr (inr (inr x))) = table_refused x.0 N (sym x.1)

      go : Story 128 plan t → Meant verdict
      go (inl x) = subst Meant (sym (run_ended 128 p.goal 0 plan t x.0 x.1))
          (ends x.0 x.1 (all_of (in_goal p.goal) x.0) refl)
      go (inr x) =
          let r = x.2 in
          let e : 0 + x.0 ≡ x.0 = omega arith in
          let a = place_arrives x.0 r.last r.arrives in
          subst Meant (sym (run_refused_lem 128 p.goal 0 plan t x.0 x.1 r ∙ ap (λ (i : ℕ). halted_by (eqb x.1 21) (suc i) x.1) e))
          (by x.0 x.1 r (subst stepping.Kind r.gives
          (stepping.step_kind p.n hp.n_most r.move
          (all_next (ProperAction p.n) x.0 plan r.move r.later r.next moves) r.last a.described.proper 128)))

  -- and the verdict is the one that is meant
  is_meant : (v : Verdict) → Meant v → verdict ≡ v
  unfolding Meant
  is_meant reached x =
      run_ended 128 p.goal 0 plan t x.0 x.1
      ∙ ap ended_in (T_true (all_of (in_goal p.goal) x.0)
      ((goal_entries p.n p.goal x.0 goals (place_arrives (length plan) x.0 x.1).described.proper).1 x.2))
  is_meant short x =
      run_ended 128 p.goal 0 plan t x.0 x.1
      ∙ ap ended_in (T_false (all_of (in_goal p.goal) x.0)
      (not_in (all_of (in_goal p.goal) x.0) (λ g. x.2.3 (goal_each p.n p.goal x.0 g x.2.0 x.2.2))))
  is_meant (stopped k N) x = go x.3
    where
      by : (c : ℕ) → N ≡ c → verdict ≡ halted_by (eqb c 21) k c
      by c e =
          let at : suc (0 + x.0) ≡ k = omega (arith, x.1) in
          run_refused_lem 128 p.goal 0 plan t x.0 c (subst (Refuses 128 plan t x.0) e x.2)
          ∙ ap (λ (i : ℕ). halted_by (eqb c 21) i c) at

      go : (N ≡ 24) ⊎ (N ≡ 25) → verdict ≡ stopped k N
      go (inl e) = by 24 e ∙ ap (stopped k) (sym e)
      go (inr e) = by 25 e ∙ ap (stopped k) (sym e)
  is_meant (full k) x =
      let at : suc (0 + x.0) ≡ k = omega (arith, x.1) in
      run_refused_lem 128 p.goal 0 plan t x.0 21 x.2 ∙ ap full at

  by_verdict : (v : Verdict) → (verdict ≡ v) ↔ Meant v
  by_verdict v = (λ e. subst Meant e meant, is_meant v)

  pub by_reached : (verdict ≡ reached) ↔ Reached
  unfolding Meant
  by_reached = by_verdict reached

  pub by_short : (verdict ≡ short) ↔ Short
  unfolding Meant
  by_short = by_verdict short

  pub by_stopped : (k N : ℕ) → (verdict ≡ stopped k N) ↔ Stopped k N
  unfolding Meant
  by_stopped k N = by_verdict (stopped k N)

  pub by_full : (k : ℕ) → (verdict ≡ full k) ↔ Filled k
  unfolding Meant
  by_full k = by_verdict (full k)

  -- ---- (d) by the starting worlds
  pub verdict_means : Means p.n p.goal (Starting p) plan verdict
  verdict_means = run_means 128 p.n hp.n_most plan moves t first (Starting p) (start_table_lem p hp 128 t starts).1 p.goal goals

  pub verdict_is : ((k : ℕ) → verdict ≡ full k → ⊥) → (v : Verdict) → ((k : ℕ) → v ≡ full k → ⊥) → (verdict ≡ v)
      ↔ Means p.n p.goal (Starting p) plan v
  verdict_is f v g = (
    λ e. subst (Means p.n p.goal (Starting p) plan) e verdict_means,
    one_verdict p.n p.goal (Starting p) plan verdict v f g verdict_means,
  )
