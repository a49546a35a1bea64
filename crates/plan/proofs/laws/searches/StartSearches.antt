-- The search of a problem from its start table: the first plan that is reached or full; a full plan is full at its last move; what
-- failing means for the starting worlds. For TH6 (SearchDemands). Assumes nothing.
use mathlib.Core.Path.{◌≡◌, refl, sym, subst, ◌∙◌}
use mathlib.Core.List.{List}
use mathlib.Core.Logic.{inl, ◌↔◌}
use mathlib.Core.Option.{some-ne-none}
use Prim.Native.Nat.{ℕ, suc, ◌≤◌, ◌<◌}
use native.Mathlib.Omega.{arith}
use native.Mathlib.Decide.{ℕ_discrete}
use lib.ListN.{length, take, length-map}
use lib.Seq.{length-take-le}
use Rattle.sheet.specs.declared.Literals.{Literals}
use Rattle.sheet.specs.Lists.{All}
use Rattle.sheet.specs.Problem.{Action, Problem}
use Rattle.sheet.specs.Encoding.{ProperProblem}
use Rattle.sheet.proofs.laws.base.ListFacts.{map_take}
use Rattle.table.specs.Worlds.{run_world, Starting}
use Rattle.table.specs.Minimal.{table}
use Rattle.table.specs.Start.{start_table}
use Rattle.table.specs.Calls.{action_at}
use Rattle.plan.specs.Run.{actions_of, Verdict, reached, short, stopped, full, run_from}
use Rattle.plan.specs.Search.{found, full_at, nothing}
use Rattle.plan.specs.Calls.{searched_from}
use Rattle.plan.specs.inner.TableRuns.{Refuses}
use Rattle.plan.specs.inner.RunEnds.{Means}
use Rattle.plan.specs.Order.{Earlier, PlanOf}
use Rattle.plan.specs.inner.FirstPlans.{Fails, FirstPlan}
use Rattle.plan.specs.DemandWords.{Solves, Spoiled}
use Rattle.plan.proofs.laws.runs.RunTables.{refuses_within, refuses_prefix}
use Rattle.plan.proofs.laws.runs.PlanWorlds.{all_take}
use Rattle.plan.proofs.laws.runs.VerdictClasses.{one_end, stop_class}
use Rattle.plan.proofs.laws.runs.StartRuns.{by_full, verdict_means}
use Rattle.plan.proofs.laws.searches.PlanOrder as searching

module _ (p : Problem) (hp : ProperProblem p) (t : List Literals) (starts : start_table 128 p ≡ table t) where
  abbrev run : List ℕ → Verdict
  run q = run_from 128 p.goal 0 (actions_of p q) t

  -- ---- reached: this plan is, and every earlier one fails; full: this plan is, and every earlier one fails; none: every one fails
  pub search_found : (limit : ℕ) (q : List ℕ) → (searched_from p limit t ≡ found q) ↔ FirstPlan run (length p.actions) limit q reached
  unfolding searched_from
  search_found = searching.search_found run (length p.actions)

  pub search_full : (limit : ℕ) (q : List ℕ) (k : ℕ) → (searched_from p limit t ≡ full_at q k)
      ↔ FirstPlan run (length p.actions) limit q (full k)
  unfolding searched_from
  search_full = searching.search_full run (length p.actions)

  pub search_nothing : (limit : ℕ) → (searched_from p limit t ≡ nothing)
      ↔ ((q : List ℕ) → PlanOf (length p.actions) limit q → Fails (run q))
  unfolding searched_from
  search_nothing = searching.search_nothing run (length p.actions)

  -- ---- a plan that is full is full before its end only where a shorter one is full
  pub full_at_end : (limit : ℕ) (q : List ℕ) (k : ℕ) → searched_from p limit t ≡ full_at q k → k ≡ length q
  full_at_end limit q k e = go (ℕ_discrete k (length q))
    where
      f : FirstPlan run (length p.actions) limit q (full k)
      f = (search_full limit q k).0 e

      x : (j : ℕ) × (k ≡ suc j) × Refuses 128 (actions_of p q) t j 21
      x = (by_full p hp t starts q f.plan.0 k).0 f.gives

      inside : suc x.0 ≤ length q
      inside = unfold actions_of in omega (arith, refuses_within 128 (actions_of p q) t x.0 21 x.2, length-map q (action_at p))

      size : length (take (suc x.0) q) ≡ suc x.0
      size = length-take-le (suc x.0) q inside

      numbers : All (λ i. i < length p.actions) (take (suc x.0) q)
      numbers = all_take (λ i. i < length p.actions) (suc x.0) q f.plan.0

      shorter : run (take (suc x.0) q) ≡ full (suc x.0)
      shorter = (by_full p hp t starts (take (suc x.0) q) numbers (suc x.0)).1 (
        x.0,
        refl,
        unfold actions_of in subst (λ (a : List Action). Refuses 128 a t x.0 21)
            (sym (map_take (action_at p) (suc x.0) q)) (refuses_prefix 128 (actions_of p q) t x.0 21 x.2),
      )

      go : Dec (k ≡ length q) → k ≡ length q
      go (yes h) = h
      go (no h) =
          absurd (subst Fails shorter
          (f.earlier (take (suc x.0) q) (numbers, omega (arith, size, inside, f.plan.1)) (inl (omega (arith, size, inside, x.1)))))

  -- ---- a plan that fails does so for some starting world: it cannot take some move, or ends outside the goal
  pub fails_world : (q : List ℕ) → All (λ i. i < length p.actions) q → Fails (run q) → Spoiled p q
  fails_world q hq f = go (run q) f (verdict_means p hp t starts q hq)
    where
      go : (v : Verdict) → Fails v → Means p.n p.goal (Starting p) (actions_of p q) v → Spoiled p q
      go reached f m = absurd f
      go short f m = let x = m.1 in (x.0, x.1, x.2, λ i. one_end p.n p.goal (run_world p.n (actions_of p q) x.0) i x.3)
      go (stopped k N) f m =
          let x = stop_class p.n (Starting p) (actions_of p q) k N m in
          (x.0, x.1, x.2, λ i. some-ne-none i.0 (sym i.1 ∙ x.3))
      go (full k) f m = absurd f

  -- and one that is not full fails exactly then
  pub world_fails : (q : List ℕ) → All (λ i. i < length p.actions) q → ((k : ℕ) → run q ≡ full k → ⊥) → Spoiled p q → Fails (run q)
  world_fails q hq h x = go (run q) refl (verdict_means p hp t starts q hq)
    where
      go : (v : Verdict) → run q ≡ v → Means p.n p.goal (Starting p) (actions_of p q) v → Fails v
      go reached e m = x.3 (m x.0 x.1 x.2)
      go short e m = tt
      go (stopped k N) e m = tt
      go (full k) e m = h k e

  -- ---- by the starting worlds: a found plan takes them all to the goal, and every earlier one fails for some
  pub found_worlds : (limit : ℕ) (q : List ℕ) → searched_from p limit t ≡ found q
      → Solves p q × ((r : List ℕ) → PlanOf (length p.actions) limit r → Earlier r q → Spoiled p r)
  found_worlds limit q e =
      let f = (search_found limit q).0 e in (
        subst (Means p.n p.goal (Starting p) (actions_of p q)) f.gives (verdict_means p hp t starts q f.plan.0),
        λ r h l. fails_world r h.0 (f.earlier r h l),
      )

  -- none exactly if every plan within the limit does so and no run is full
  pub nothing_worlds : (limit : ℕ)
      → (searched_from p limit t ≡ nothing)
      ↔ ((q : List ℕ) → PlanOf (length p.actions) limit q → Spoiled p q × ((k : ℕ) → run q ≡ full k → ⊥))
  nothing_worlds limit = (
    λ e q h. let f = (search_nothing limit).0 e q h in (fails_world q h.0 f, λ k i. subst Fails i f),
    λ f. (search_nothing limit).1 (λ q h. world_fails q h.0 (f q h).1 (f q h).0),
  )
