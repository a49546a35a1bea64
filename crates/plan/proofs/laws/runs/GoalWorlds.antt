-- The goal by entries and by worlds: every entry of a table passes the test exactly if every world of the table is in the goal. For
-- VerdictWorlds and StartRuns. Assumes nothing.
use mathlib.Core.Bool.{not}
use mathlib.Core.List.{List}
use mathlib.Core.Logic.{◌⊎◌, inl, inr, ◌↔◌}
use Prim.Native.Nat.{ℕ, ◌^◌, ◌<◌}
use lib.Dec.{T}
use Rattle.sheet.specs.declared.Literals.{Literals}
use Rattle.sheet.specs.Literals.{within, clash, flip, state, meets, Proper}
use Rattle.sheet.specs.Lists.{All, all_of}
use Rattle.sheet.proofs.laws.base.Bools.{test, both, T_true, T_false, true_T, false_T}
use Rattle.sheet.proofs.laws.base.ListFacts.{all_map, any_with, any_out, any_choose, all_test, all_fails}
use Rattle.sheet.proofs.laws.literals.LiteralSets.{within_of, meet_at, meet_here, proper_consistent, proper_below}
use Rattle.sheet.proofs.laws.literals.Worlds.{counter_world}
use Rattle.table.specs.Worlds.{InGoal}
use Rattle.table.specs.Minimal.{In}
use Rattle.plan.specs.Run.{in_goal}

-- a clause that an entry meets holds in its worlds
meets_mono : (c d x : Literals) → T (within d x) → T (meets c d) → T (meets c x)
unfolding meets
meets_mono c d x h k =
    let y = meet_at c d (T_true (clash (flip c) d) k) in
    true_T (clash (flip c) x) (meet_here c x y.0 y.1 y.2 (within_of d x (T_true (within d x) h) y.0 y.1 y.3))

-- one that it does not meet fails in one of them: entry and clause have no complementary pair
meets_lacks : (n : ℕ) (c d : Literals) → Proper n c → Proper n d → T (not (meets c d))
    → (w : ℕ) × (T (not (meets c (state n w))) × ((w < 2 ^ n) × T (within d (state n w))))
unfolding meets
meets_lacks n c d hc hd h =
    let r = counter_world n c d (proper_consistent n c hc) (proper_consistent n d hd) (T_false (clash (flip c) d) h) (proper_below n c hc)
    (proper_below n d hd) in
    (r.0, (false_T (clash (flip c) (state n r.0)) r.3, (r.1, true_T (within d (state n r.0)) r.2)))

pub goal_each : (n : ℕ) (goal t : List Literals) → T (all_of (in_goal goal) t) → (w : ℕ) → In n t w → InGoal n goal w
unfolding in_goal
goal_each n goal t h w i =
    any_out (λ d. T (in_goal goal d)) (λ d. T (within d (state n w)))
    (λ d k j. all_map (λ c. T (meets c d)) (λ c. T (meets c (state n w))) (λ c m. meets_mono c d (state n w) j m) goal
    (all_test (λ c. meets c d) goal k))
    t (all_test (in_goal goal) t h) i

pub goal_lacks : (n : ℕ) (goal t : List Literals) → All (Proper n) goal → All (Proper n) t → T (not (all_of (in_goal goal) t))
    → (w : ℕ) × (In n t w × ((w < 2 ^ n) × (InGoal n goal w → ⊥)))
unfolding in_goal
goal_lacks n goal t hg ht h =
    any_choose (λ d w. T (within d (state n w))) (λ w. (w < 2 ^ n) × (InGoal n goal w → ⊥)) t
    (any_with (Proper n) (λ d. T (not (in_goal goal d))) (λ d. (w : ℕ) × (T (within d (state n w)) × ((w < 2 ^ n) × (InGoal n goal w → ⊥))))
    (λ d hd k.
    let x = any_choose (λ c w. T (not (meets c (state n w)))) (λ w. (w < 2 ^ n) × T (within d (state n w))) goal
    (any_with (Proper n) (λ c. T (not (meets c d)))
    (λ c. (w : ℕ) × (T (not (meets c (state n w))) × ((w < 2 ^ n) × T (within d (state n w)))))
    (λ c hc m. meets_lacks n c d hc hd m) goal hg (all_fails (λ c. meets c d) goal k)) in (
      x.0,
      (
        x.1.1.1,
        (
          x.1.1.0,
          λ g.
              any_out (λ c. T (meets c (state n x.0))) (λ c. T (not (meets c (state n x.0))))
              (λ c p q. both (meets c (state n x.0)) p q) goal g x.1.0,
        ),
      ),
    ))
    t ht (all_fails (in_goal goal) t h))

pub goal_entries : (n : ℕ) (goal t : List Literals) → All (Proper n) goal → All (Proper n) t
    → T (all_of (in_goal goal) t) ↔ ((w : ℕ) → w < 2 ^ n → In n t w → InGoal n goal w)
goal_entries n goal t hg ht = (λ h w l i. goal_each n goal t h w i, λ f. back f (test (all_of (in_goal goal) t)))
  where
    back : ((w : ℕ) → w < 2 ^ n → In n t w → InGoal n goal w) → T (all_of (in_goal goal) t) ⊎ T (not (all_of (in_goal goal) t))
        → T (all_of (in_goal goal) t)
    back f (inl h) = h
    back f (inr h) = let x = goal_lacks n goal t hg ht h in absurd (x.1.1.1 (f x.0 x.1.1.0 x.1.0))
