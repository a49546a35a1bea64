-- TH6: the call search gives the first run that is reached or full, or none, by the call run on the sheets that carry the plans, and by
-- worlds; its eight bytes. For `search_finds` and `back` in proofs/Demands. Assumes nothing.
use mathlib.Core.Path.{◌≡◌, refl, sym, ap, subst, ◌∙◌}
use mathlib.Core.Bool.{Bool, true, false, cond, true≢false}
use mathlib.Core.List.{List, []}
use mathlib.Core.Logic.{◌⊎◌, inl, inr, ◌↔◌}
use Prim.Native.Nat.{ℕ, ◌≤◌}
use native.Mathlib.Omega.{arith}
use lib.Dec.{ltb}
use lib.ListN.{length}
use borrow.Author.Tests.{ltb-true, ltb-false}
use Rattle.sheet.specs.declared.Literals.{Literals}
use Rattle.sheet.specs.Calls.{Accepted, Refused}
use Rattle.sheet.specs.Lists.{pad}
use Rattle.sheet.specs.Problem.{Problem, Statement}
use Rattle.sheet.specs.Format.{Judgement, accepted, refused, sheet_of}
use Rattle.sheet.specs.Faults.{Says}
use Rattle.sheet.specs.Encoding.{ProperProblem}
use Rattle.sheet.proofs.laws.base.Padding.{take_pad}
use Rattle.sheet.proofs.Demands.{statement_proper}
use Rattle.table.specs.Minimal.{Outcome}
use Rattle.table.specs.Start.{start_table}
use Rattle.table.specs.Calls.{start_of}
use Rattle.table.specs.CallWords.{Starts}
use Rattle.table.proofs.Demands as tables
use Rattle.table.proofs.laws.answers.CallTables.{start_some}
use Rattle.table.proofs.laws.answers.CallDemands.{start_else}
use Rattle.plan.specs.declared.RunAnswer.{RunAnswer}
use Rattle.plan.specs.declared.SearchAnswer.{SearchAnswer}
use Rattle.plan.specs.declared.Verdict as case
use Rattle.plan.specs.declared.Verdict.TheVariants as ran
use Rattle.plan.specs.declared.Kind.TheVariants as kind
use Rattle.plan.specs.Run.{actions_of, Verdict, reached, short, stopped, full, run_from}
use Rattle.plan.specs.Search.{Answer, found, full_at, nothing}
use Rattle.plan.specs.Calls.{verdict_of, refused_search, answered, searched_from, searched, search_of}
use Rattle.plan.specs.Order.{Earlier, PlanOf}
use Rattle.plan.specs.inner.FirstPlans.{Fails, FirstPlan}
use Rattle.plan.specs.Demand3.{full_verdict, run_full, SamePlanSheet}
use Rattle.plan.specs.DemandWords.{Solves, Spoiled, run_with, Misses, FirstRun, plan_found}
use Rattle.plan.proofs.laws.runs.StartRuns.{verdict_is}
use Rattle.plan.proofs.laws.runs.CallVerdicts.{not_full, verdict_injective}
use Rattle.plan.proofs.laws.searches.SearchRefusals.{search_fault, search_within, search_8}
use Rattle.plan.proofs.laws.searches.StartSearches as searches
use Rattle.plan.proofs.laws.runs.StartOutcomes.{Outcomes, outcomes, by_outcome}
use Rattle.plan.proofs.laws.searches.CarriedPlans.{with_table, with_refused}

-- ---- verdicts that the search passes over
fails_misses : (v : Verdict) → Fails v → Misses (verdict_of v)
unfolding verdict_of
fails_misses reached f = f
fails_misses short f = tt
fails_misses (stopped k N) f = tt
fails_misses (full k) f = f

misses_fails : (v : Verdict) → Misses (verdict_of v) → Fails v
unfolding verdict_of
misses_fails reached f = f
misses_fails short f = tt
misses_fails (stopped k N) f = tt
misses_fails (full k) f = f

misses_unfull : (v : Verdict) → Fails v → full_verdict (verdict_of v) ≡ false
unfolding verdict_of full_verdict
misses_unfull reached f = absurd f
misses_unfull short f = refl
misses_unfull (stopped k N) f = refl
misses_unfull (full k) f = absurd f

-- a run by a verdict that is not full
unfull_run : (r : RunAnswer) (v : case.Verdict) → r.verdict ≡ v → full_verdict v ≡ false → run_full r ≡ false
unfolding run_full
unfull_run r v e f = ap full_verdict e ∙ f

missed_unfull : (r : RunAnswer) → Misses r.verdict → run_full r ≡ false
unfolding run_full
missed_unfull r = go r.verdict
  where
    go : (v : case.Verdict) → Misses v → full_verdict v ≡ false
    go ran.Reached m = absurd m
    go ran.Short m = unfold full_verdict in refl
    go (ran.Stopped place number) m = unfold full_verdict in refl
    go (ran.Full place) m = absurd m
    go (ran.Refused number position) m = absurd m

-- what the answer of a search says
reached_is : (a : Answer) → (answered a).kind ≡ kind.Reached → (q : List ℕ) × (a ≡ found q)
unfolding answered
reached_is (found q) e = (q, refl)
reached_is (full_at q k) e = absurd (let z : ◌≡◌ {A = ℕ} 0 1 = cc in omega arith)
reached_is nothing e = absurd (let z : ◌≡◌ {A = ℕ} 0 1 = cc in omega arith)

full_is : (a : Answer) (k : ℕ) → (answered a).kind ≡ kind.Full k → (q : List ℕ) × (a ≡ full_at q k)
unfolding answered
full_is (found q) k e = absurd (let z : ◌≡◌ {A = ℕ} 0 1 = cc in omega arith)
full_is (full_at q j) k e = let i : j ≡ k = cc in (q, ap (full_at q) i)
full_is nothing k e = absurd (let z : ◌≡◌ {A = ℕ} 0 1 = cc in omega arith)

nothing_is : (a : Answer) → (answered a).kind ≡ kind.Nothing → a ≡ nothing
unfolding answered
nothing_is (found q) e = absurd (let z : ◌≡◌ {A = ℕ} 0 1 = cc in omega arith)
nothing_is (full_at q k) e = absurd (let z : ◌≡◌ {A = ℕ} 0 1 = cc in omega arith)
nothing_is nothing e = refl

found_plan : (q : List ℕ) → length q ≤ 8 → ((answered (found q)).kind ≡ kind.Reached) × (plan_found (answered (found q)) ≡ q)
unfolding answered
found_plan q h = (refl, take_pad 8 0 q h)

full_plan : (q : List ℕ) (k : ℕ) → length q ≤ 8 → ((answered (full_at q k)).kind ≡ kind.Full k) × (plan_found (answered (full_at q k)) ≡ q)
unfolding answered
full_plan q k h = (refl, take_pad 8 0 q h)

nothing_kind : (answered nothing).kind ≡ kind.Nothing
unfolding answered
nothing_kind = refl

full_length : (q : List ℕ) (k : ℕ) → (answered (full_at q k)).length ≡ length q
unfolding answered
full_length q k = refl

module _ (s : List ℕ) (x : Statement) (says : Says s x) (limit : ℕ) (le : limit ≤ 8) where
  abbrev π : Problem
  π = x.problem

  abbrev moves : ℕ
  moves = length x.problem.actions

  hπ : ProperProblem π
  hπ = (statement_proper s x says).problem

  abbrev Search : SearchAnswer
  Search = search_of (sheet_of s) limit

  -- ---- the start is refused
  module _ (N : ℕ) (starts : start_table 128 x.problem ≡ Outcome.refused N) where
    call_refused : (search_of (sheet_of s) limit).kind ≡ kind.Refused N 0
    unfolding searched refused_search
    call_refused = ap (λ (r : SearchAnswer). r.kind) (search_within s x says limit le ∙ ap (searched x.problem limit) starts)

    run_refused_lem : (q : List ℕ) → PlanOf (length x.problem.actions) limit q → (run_with x.problem q).verdict ≡ ran.Refused N 0
    run_refused_lem q h = with_refused x.problem hπ q h.0 (omega (arith, h.1)) N starts

  -- ---- the start gives the table t
  module _ (t : List Literals) (starts : start_table 128 x.problem ≡ Outcome.table t) where
    abbrev verdict_of_lem : List ℕ → Verdict
    verdict_of_lem q = run_from 128 x.problem.goal 0 (actions_of x.problem q) t

    abbrev answer : Answer
    answer = searched_from x.problem limit t

    call : search_of (sheet_of s) limit ≡ answered answer
    call = unfold searched in search_within s x says limit le ∙ ap (searched x.problem limit) starts

    gives : (q : List ℕ) → PlanOf moves limit q → (run_with x.problem q).verdict ≡ verdict_of (verdict_of_lem q)
    gives q h = with_table x.problem hπ q h.0 (omega (arith, h.1)) t starts

    -- the first plan, by the runs from the table and by the calls
    first_run : (q : List ℕ) (v : Verdict) → FirstPlan verdict_of_lem moves limit q v → FirstRun x.problem limit q (verdict_of v)
    first_run q v f = record {
      plan = f.plan;
      gives = gives q f.plan ∙ ap verdict_of f.gives;
      earlier = λ r h l. subst Misses (sym (gives r h)) (fails_misses (verdict_of_lem r) (f.earlier r h l));
    }

    first_plan : (q : List ℕ) (v : Verdict) → FirstRun x.problem limit q (verdict_of v) → FirstPlan verdict_of_lem moves limit q v
    first_plan q v f = record {
      plan = f.plan;
      gives = verdict_injective (verdict_of_lem q) v (sym (gives q f.plan) ∙ f.gives);
      earlier = λ r h l. misses_fails (verdict_of_lem r) (subst Misses (gives r h) (f.earlier r h l));
    }

    within : (q : List ℕ) → PlanOf moves limit q → length q ≤ 8
    within q h = omega (arith, h.1)

    at_found : (q : List ℕ) → answer ≡ found q → PlanOf moves limit q → ((search_of (sheet_of s) limit).kind ≡ kind.Reached)
        × (plan_found (search_of (sheet_of s) limit) ≡ q)
    at_found q e h =
        let k = found_plan q (within q h) in (
          ap (λ (r : SearchAnswer). r.kind) (call ∙ ap answered e) ∙ k.0,
          ap (λ (r : SearchAnswer). plan_found r) (call ∙ ap answered e)
              ∙ k.1,
        )

    at_full : (q : List ℕ) (i : ℕ) → answer ≡ full_at q i → PlanOf moves limit q → ((search_of (sheet_of s) limit).kind ≡ kind.Full i)
        × (plan_found (search_of (sheet_of s) limit) ≡ q)
    at_full q i e h =
        let k = full_plan q i (within q h) in (
          ap (λ (r : SearchAnswer). r.kind) (call ∙ ap answered e) ∙ k.0,
          ap (λ (r : SearchAnswer). plan_found r) (call ∙ ap answered e)
              ∙ k.1,
        )

    found_first : (q : List ℕ) → (answer ≡ found q) ↔ FirstPlan verdict_of_lem moves limit q reached
    found_first = searches.search_found x.problem hπ t starts limit

    full_first : (q : List ℕ) (i : ℕ) → (answer ≡ full_at q i) ↔ FirstPlan verdict_of_lem moves limit q (full i)
    full_first = searches.search_full x.problem hπ t starts limit

    -- the plan of the answer
    its_found : (search_of (sheet_of s) limit).kind ≡ kind.Reached → answer ≡ found (plan_found (search_of (sheet_of s) limit))
    its_found e =
        let r = reached_is answer (ap (λ (r : SearchAnswer). r.kind) (sym call) ∙ e) in
        r.1 ∙ ap found (sym (at_found r.0 r.1 ((found_first r.0).0 r.1).plan).1)

    its_full : (i : ℕ) → (search_of (sheet_of s) limit).kind ≡ kind.Full i → answer ≡ full_at (plan_found (search_of (sheet_of s) limit)) i
    its_full i e =
        let r = full_is answer i (ap (λ (r : SearchAnswer). r.kind) (sym call) ∙ e) in
        r.1 ∙ ap (λ (q : List ℕ). full_at q i) (sym (at_full r.0 i r.1 ((full_first r.0 i).0 r.1).plan).1)

    by_reached : (q : List ℕ) → (((search_of (sheet_of s) limit).kind ≡ kind.Reached) × (plan_found (search_of (sheet_of s) limit) ≡ q))
        ↔ FirstRun x.problem limit q ran.Reached
    unfolding verdict_of
    by_reached q = (
      λ h. first_run q reached ((found_first q).0 (its_found h.0 ∙ ap found h.1)),
      λ f. let g = first_plan q reached f in at_found q ((found_first q).1 g) g.plan,
    )

    by_full : (q : List ℕ) (i : ℕ) → (((search_of (sheet_of s) limit).kind ≡ kind.Full i) × (plan_found (search_of (sheet_of s) limit) ≡ q))
        ↔ FirstRun x.problem limit q (ran.Full i)
    unfolding verdict_of
    by_full q i = (
      λ h. first_run q (full i) ((full_first q i).0 (its_full i h.0 ∙ ap (λ (z : List ℕ). full_at z i) h.1)),
      λ f. let g = first_plan q (full i) f in at_full q i ((full_first q i).1 g) g.plan,
    )

    its_nothing : ((search_of (sheet_of s) limit).kind ≡ kind.Nothing) ↔ (answer ≡ nothing)
    its_nothing = (
      λ e. nothing_is answer (ap (λ (r : SearchAnswer). r.kind) (sym call) ∙ e),
      λ e. ap (λ (r : SearchAnswer). r.kind) (call ∙ ap answered e) ∙ nothing_kind,
    )

    by_nothing : ((search_of (sheet_of s) limit).kind ≡ kind.Nothing)
        ↔ ((q : List ℕ) → PlanOf moves limit q → Misses (run_with x.problem q).verdict)
    by_nothing = (
      λ e q h. subst Misses (sym (gives q h))
          (fails_misses (verdict_of_lem q) ((searches.search_nothing x.problem hπ t starts limit).0 (its_nothing.0 e) q h)),
      λ f. its_nothing.1 ((searches.search_nothing x.problem hπ t starts limit).1
          (λ q h. misses_fails (verdict_of_lem q) (subst Misses (gives q h) (f q h)))),
    )

    ends : (i : ℕ) → (search_of (sheet_of s) limit).kind ≡ kind.Full i → i ≡ (search_of (sheet_of s) limit).length
    ends i e =
        let q = plan_found (search_of (sheet_of s) limit) in
        searches.full_at_end x.problem hπ t starts limit q i (its_full i e)
        ∙ sym (ap (λ (r : SearchAnswer). r.length) (call ∙ ap answered (its_full i e)) ∙ full_length q i)

    found_by : (search_of (sheet_of s) limit).kind ≡ kind.Reached
        → Solves x.problem (plan_found (search_of (sheet_of s) limit))
        × ((r : List ℕ) → PlanOf moves limit r → Earlier r (plan_found (search_of (sheet_of s) limit)) → Spoiled x.problem r)
    found_by e = searches.found_worlds x.problem hπ t starts limit (plan_found (search_of (sheet_of s) limit)) (its_found e)

    -- by the worlds
    spoiled_by : (r : List ℕ) → PlanOf moves limit r → Misses (run_with x.problem r).verdict → Spoiled x.problem r
    spoiled_by r h m = searches.fails_world x.problem hπ t starts r h.0 (misses_fails (verdict_of_lem r) (subst Misses (gives r h) m))

    unfull : (q : List ℕ) → PlanOf moves limit q → run_full (run_with x.problem q) ≡ false → (k : ℕ) → verdict_of_lem q ≡ full k → ⊥
    unfolding run_full
    unfull q h f = not_full (verdict_of_lem q) (ap full_verdict (sym (gives q h)) ∙ f)

    found_of : (q : List ℕ) → PlanOf moves limit q → run_full (run_with x.problem q) ≡ false → Solves x.problem q
        → ((r : List ℕ) → PlanOf moves limit r → Earlier r q → (run_full (run_with x.problem r) ≡ false) × Spoiled x.problem r)
        → ((search_of (sheet_of s) limit).kind ≡ kind.Reached) × (plan_found (search_of (sheet_of s) limit) ≡ q)
    found_of q h f g k = at_found q ((found_first q).1 first) h
      where
        first : FirstPlan verdict_of_lem moves limit q reached
        first = record {
          plan = h;
          gives = (verdict_is x.problem hπ t starts q h.0 (unfull q h f) reached
              (λ k e. let z : ◌≡◌ {A = ℕ} 0 1 = cc in omega arith)).1 g;
          earlier = λ r i l. searches.world_fails x.problem hπ t starts r i.0 (unfull r i (k r i l).0) (k r i l).1;
        }

    nothing_by : ((search_of (sheet_of s) limit).kind ≡ kind.Nothing)
        ↔ ((q : List ℕ) → PlanOf moves limit q → Spoiled x.problem q × (run_full (run_with x.problem q) ≡ false))
    unfolding run_full
    nothing_by = (
      λ e q h. (
        ((searches.nothing_worlds x.problem hπ t starts limit).0 (its_nothing.0 e) q h).0,
        ap full_verdict (gives q h) ∙ misses_unfull (verdict_of_lem q)
            ((searches.search_nothing x.problem hπ t starts limit).0 (its_nothing.0 e) q h),
      ),
      λ f. its_nothing.1 ((searches.nothing_worlds x.problem hπ t starts limit).1 (λ q h. ((f q h).0, unfull q h (f q h).1))),
    )

  -- ---- both together
  empty : PlanOf moves limit []
  empty = (tt, omega arith)

  pub search_reached : (q : List ℕ) → (((search_of (sheet_of s) limit).kind ≡ kind.Reached) ×
      (plan_found (search_of (sheet_of s) limit) ≡ q))
      ↔ FirstRun x.problem limit q ran.Reached
  search_reached q = by_outcome x.problem
      (λ N e h. let z : ◌≡◌ {A = ℕ} 0 1 = cc (call_refused N e, h.0) in omega arith)
      (λ N e f. let z : ◌≡◌ {A = ℕ} 0 1 = cc (run_refused_lem N e q f.plan, f.gives) in omega arith)
      (λ t e. by_reached t e q)

  pub search_full : (q : List ℕ) (k : ℕ)
      → (((search_of (sheet_of s) limit).kind ≡ kind.Full k) × (plan_found (search_of (sheet_of s) limit) ≡ q))
      ↔ FirstRun x.problem limit q (ran.Full k)
  search_full q k = by_outcome x.problem
      (λ N e h. let z : ◌≡◌ {A = ℕ} 0 1 = cc (call_refused N e, h.0) in omega arith)
      (λ N e f. let z : ◌≡◌ {A = ℕ} 0 1 = cc (run_refused_lem N e q f.plan, f.gives) in omega arith)
      (λ t e. by_full t e q k)

  pub search_none : ((search_of (sheet_of s) limit).kind ≡ kind.Nothing)
      ↔ ((q : List ℕ) → PlanOf moves limit q → Misses (run_with x.problem q).verdict)
  search_none = by_outcome x.problem
      (λ N e h. let z : ◌≡◌ {A = ℕ} 0 1 = cc (call_refused N e, h) in omega arith)
      (λ N e f. subst Misses (run_refused_lem N e [] empty) (f [] empty))
      by_nothing

  -- a search that is not refused had a start table
  had_start : ((N : ℕ) → (search_of (sheet_of s) limit).kind ≡ kind.Refused N 0 → ⊥)
      → (t : List Literals) × (start_table 128 x.problem ≡ Outcome.table t)
  had_start f = go (outcomes x.problem)
    where
      go : Outcomes x.problem → (t : List Literals) × (start_table 128 x.problem ≡ Outcome.table t)
      go (inl r) = absurd (f r.0 (call_refused r.0 r.1))
      go (inr t) = t

  pub full_at_end : (k : ℕ) → (search_of (sheet_of s) limit).kind ≡ kind.Full k → k ≡ (search_of (sheet_of s) limit).length
  full_at_end k e =
      let t = had_start (λ N f. let z : ◌≡◌ {A = ℕ} 0 1 = cc in omega arith) in
      ends t.0 t.1 k e

  found_worlds : (search_of (sheet_of s) limit).kind ≡ kind.Reached
      → Solves x.problem (plan_found (search_of (sheet_of s) limit))
      × ((r : List ℕ) → PlanOf moves limit r → Earlier r (plan_found (search_of (sheet_of s) limit)) → Spoiled x.problem r)
  found_worlds e =
      let t = had_start (λ N f. let z : ◌≡◌ {A = ℕ} 0 1 = cc in omega arith) in
      found_by t.0 t.1 e

  worlds_found : (w : ℕ) → Starts x.problem w → (q : List ℕ) → PlanOf moves limit q → run_full (run_with x.problem q) ≡ false
      → Solves x.problem q
      → ((r : List ℕ) → PlanOf moves limit r → Earlier r q → (run_full (run_with x.problem r) ≡ false) × Spoiled x.problem r)
      → ((search_of (sheet_of s) limit).kind ≡ kind.Reached) × (plan_found (search_of (sheet_of s) limit) ≡ q)
  worlds_found w st q h f g k = go (start_else s x says w st)
    where
      full_by : start_table 128 x.problem ≡ Outcome.refused 21 → run_full (run_with x.problem q) ≡ true
      full_by i = unfold run_full full_verdict in ap full_verdict (run_refused_lem 21 i q h)

      go : ((start_of (sheet_of s)).answer ≡ Accepted) ⊎ ((start_of (sheet_of s)).answer ≡ Refused 21 0)
          → ((search_of (sheet_of s) limit).kind ≡ kind.Reached) × (plan_found (search_of (sheet_of s) limit) ≡ q)
      go (inl e) = let t = (tables.start_accepted s x says).0 e in found_of t.0 t.1 q h f g k
      go (inr e) = absurd (true≢false (sym (full_by ((tables.start_number s x says 21 0).0 e).1) ∙ f))

  pub none_worlds : ((search_of (sheet_of s) limit).kind ≡ kind.Nothing)
      ↔ ((q : List ℕ) → PlanOf moves limit q → Spoiled x.problem q × (run_full (run_with x.problem q) ≡ false))
  none_worlds = by_outcome x.problem
      (λ N e h. let z : ◌≡◌ {A = ℕ} 0 1 = cc (call_refused N e, h) in omega arith)
      (λ N e f. let v = f [] empty in true≢false (sym (full_by N e (start_else s x says v.0.0 (v.0.1, v.0.2))) ∙ v.1))
      nothing_by
    where
      full_by : (N : ℕ) → start_table 128 x.problem ≡ Outcome.refused N
          → ((start_of (sheet_of s)).answer ≡ Accepted) ⊎ ((start_of (sheet_of s)).answer ≡ Refused 21 0)
          → run_full (run_with x.problem []) ≡ true
      full_by N r (inl e) = absurd (let t = (tables.start_accepted s x says).0 e in let z : ◌≡◌ {A = ℕ} 0 1 = cc (t.1, r) in omega arith)
      full_by N r (inr e) = unfold run_full full_verdict in ap full_verdict
          (run_refused_lem 21 ((tables.start_number s x says 21 0).0 e).1 [] empty)

  -- by worlds, both ways
  pub reached_worlds : (q : List ℕ) → (((search_of (sheet_of s) limit).kind ≡ kind.Reached) ×
      (plan_found (search_of (sheet_of s) limit) ≡ q))
      ↔ (((w : ℕ) × Starts x.problem w) × PlanOf moves limit q × (run_full (run_with x.problem q) ≡ false) × Solves x.problem q
      × ((r : List ℕ) → PlanOf moves limit r → Earlier r q → (run_full (run_with x.problem r) ≡ false) × Spoiled x.problem r))
  reached_worlds q = (
    λ h.
        let t = had_start (λ N e. let z : ◌≡◌ {A = ℕ} 0 1 = cc (e, h.0) in omega arith) in
        let f = (search_reached q).0 h in (
          start_some s x says t.0 t.1,
          f.plan,
          unfull_run (run_with x.problem q) ran.Reached f.gives (unfold full_verdict in refl),
          subst (Solves x.problem) h.1 (found_worlds h.0).0,
          λ r i l. (missed_unfull (run_with x.problem r) (f.earlier r i l), spoiled_by t.0 t.1 r i (f.earlier r i l)),
        ),
    λ h. worlds_found h.0.0 h.0.1 q h.1 h.2 h.3 h.4,
  )

  -- every plan before one that is full fails for some starting world
  pub full_worlds : (k : ℕ) → (search_of (sheet_of s) limit).kind ≡ kind.Full k
      → (r : List ℕ) → PlanOf moves limit r → Earlier r (plan_found (search_of (sheet_of s) limit)) → Spoiled x.problem r
  full_worlds k e r h l =
      let t = had_start (λ N f. let z : ◌≡◌ {A = ℕ} 0 1 = cc in omega arith) in
      spoiled_by t.0 t.1 r h (((search_full (plan_found (search_of (sheet_of s) limit)) k).0 (e, refl)).earlier r h l)

-- ---- the eight bytes of a search
abbrev Padded : SearchAnswer → Type 0
Padded r = (r.length ≤ 8) × (r.plan ≡ pad 8 0 (plan_found r))

padded_refused : (k q : ℕ) → Padded (refused_search k q)
unfolding refused_search pad
padded_refused k q = (omega arith, refl)

padded_answer : (a : Answer) → ((q : List ℕ) → a ≡ found q → length q ≤ 8) → ((q : List ℕ) (k : ℕ) → a ≡ full_at q k → length q ≤ 8)
    → Padded (answered a)
padded_answer (found q) f g = unfold answered in (f q refl, ap (pad 8 0) (sym (take_pad 8 0 q (f q refl))))
padded_answer (full_at q k) f g = unfold answered in (g q k refl, ap (pad 8 0) (sym (take_pad 8 0 q (g q k refl))))
padded_answer nothing f g = unfold answered pad in (omega arith, refl)

-- whatever a refusal and every answer of plans within 8 moves has, a search has
abbrev Short : Answer → Type 0
Short a = ((q : List ℕ) → a ≡ found q → length q ≤ 8) × ((q : List ℕ) (k : ℕ) → a ≡ full_at q k → length q ≤ 8)

module _ (P : SearchAnswer → Type 0) (None-found : (k q : ℕ) → P (refused_search k q))
    (any-answer : (a : Answer) → Short a → P (answered a)) (s : List ℕ) (limit : ℕ) where
  module _ (x : Statement) (e : sheet_of s ≡ accepted x) where
    by_start : (N : ℕ) → limit ≤ 8 → start_table 128 x.problem ≡ Outcome.refused N → search_of (sheet_of s) limit ≡ refused_search N 0
    unfolding searched
    by_start N h i = search_within s x e limit h ∙ ap (searched x.problem limit) i

    by_table : (t : List Literals) → limit ≤ 8 → start_table 128 x.problem ≡ Outcome.table t
        → search_of (sheet_of s) limit ≡ answered (searched_from x.problem limit t)
    unfolding searched
    by_table t h i = search_within s x e limit h ∙ ap (searched x.problem limit) i

    start : limit ≤ 8 → Outcomes x.problem → P (search_of (sheet_of s) limit)
    start h (inl i) = subst P (sym (by_start i.0 h i.1)) (None-found i.0 0)
    start h (inr i) =
        subst P (sym (by_table i.0 h i.1))
        (any-answer (searched_from x.problem limit i.0) (
          λ q f. omega (arith, h, ((searches.search_found x.problem (statement_proper s x e).problem i.0 i.1 limit q).0 f).plan.1),
          λ q k f. omega (
            arith,
            h,
            ((searches.search_full x.problem (statement_proper s x e).problem i.0 i.1 limit q k).0
                f).plan.1,
          ),
        ))

    most : (b : Bool) → ltb 8 limit ≡ b → P (search_of (sheet_of s) limit)
    most true f = subst P (sym (search_8 s x e limit (ltb-true 8 limit f))) (None-found 8 0)
    most false f = start (ltb-false 8 limit f) (outcomes x.problem)

  search_any : P (search_of (sheet_of s) limit)
  search_any = go (sheet_of s) refl
    where
      go : (j : Judgement) → sheet_of s ≡ j → P (search_of (sheet_of s) limit)
      go (refused k q) e = subst P (sym (search_fault s limit k q e)) (None-found k q)
      go (accepted x) e = most x e (ltb 8 limit) refl

pub search_bytes : (s : List ℕ) (limit : ℕ) → Padded (search_of (sheet_of s) limit)
search_bytes = search_any Padded padded_refused (λ a h. padded_answer a h.0 h.1)

-- none has length 0
abbrev Unplanned : SearchAnswer → Type 0
Unplanned r = r.kind ≡ kind.Nothing → r.length ≡ 0

unplanned : (a : Answer) → Unplanned (answered a)
unfolding answered
unplanned (found q) e = absurd (let z : ◌≡◌ {A = ℕ} 0 1 = cc in omega arith)
unplanned (full_at q k) e = absurd (let z : ◌≡◌ {A = ℕ} 0 1 = cc in omega arith)
unplanned nothing e = refl

unplanned_refused : (k q : ℕ) → Unplanned (refused_search k q)
unfolding refused_search
unplanned_refused k q e = refl

pub search_no_plan : (s : List ℕ) (limit : ℕ) → (search_of (sheet_of s) limit).kind ≡ kind.Nothing → (search_of (sheet_of s) limit).length
    ≡ 0
search_no_plan = search_any Unplanned unplanned_refused (λ a h. unplanned a)

-- ---- the sheet's own plan is ignored
searched_by_lem : (s : List ℕ) (x : Statement) → Says s x → (limit : ℕ)
    → search_of (sheet_of s) limit ≡ cond (ltb 8 limit) (refused_search 8 0) (searched x.problem limit (start_table 128 x.problem))
unfolding search_of
searched_by_lem s x says limit = rw says

pub plan_ignored : (s r : List ℕ) (x y : Statement) → SamePlanSheet s r x y → (limit : ℕ)
    → search_of (sheet_of r) limit ≡ search_of (sheet_of s) limit
plan_ignored s r x y same limit =
    searched_by_lem r y same.second limit
    ∙ ap (λ (p : Problem). cond (ltb 8 limit) (refused_search 8 0) (searched p limit (start_table 128 p))) (sym same.alike)
    ∙ sym (searched_by_lem s x same.first limit)
