-- Where no shorter plan is reached or full (`NoShorterPlan`): so it is after a move, from any place, and for one move more; and a move that
-- leaves the table as it was leads to no answer. For TriedMoves, MemorySlots and `searches::lengths`. Assumes nothing.
use mathlib.Core.Path.{◌≡◌, ap, subst, ◌∙◌}
use mathlib.Core.Bool.{Bool, true, false}
use mathlib.Core.List.{List, [], ◌∷◌, map}
use Prim.Native.Nat.{ℕ, suc, ◌+◌, ◌<◌}
use native.Mathlib.Omega.{arith}
use native.Mathlib.Decide.{ℕ_discrete}
use lib.Dec.{eqb}
use lib.ListN.{length}
use Rattle.sheet.specs.declared.Literals.{Literals}
use Rattle.sheet.specs.Lists.{All}
use Rattle.sheet.specs.Problem.{Action}
use Rattle.sheet.proofs.laws.base.ListFacts.{all_map, any_out}
use Rattle.table.specs.Minimal.{Outcome, refused, table}
use Rattle.table.specs.Step.{step_table}
use Rattle.plan.specs.Run.{halted_by, onward, run_from}
use Rattle.plan.specs.Search.{plans_of, nothing, first_of}
use Rattle.plan.specs.inner.FirstPlans.{Fails}
use Rattle.plan.specs.inner.Searches.{ran_from, first_from, first_by, NoShorterPlan}
use Rattle.plan.proofs.laws.searches.PlanOrder.{plans_in, plans_out, none_is, none_each}
use Rattle.plan.proofs.laws.searches.FirstByMove.{first_below, each_nothing, consed, by_table}

-- a plan fails or not wherever it begins
fails_place : (goal : List Literals) (plan : List Action) (t : List Literals) (a b : ℕ) → Fails (run_from 128 goal a plan t)
    → Fails (run_from 128 goal b plan t)
fails_place goal [] t a b h = h
fails_place goal (x ∷ plan) t a b h = go (step_table 128 x t) (λ u. fails_place goal plan u (suc a) (suc b)) h
  where
    by : (c : Bool) (N : ℕ) → Fails (halted_by c (suc a) N) → Fails (halted_by c (suc b) N)
    by true N k = k
    by false N k = k

    go : (o : Outcome) → ((u : List Literals) → Fails (run_from 128 goal (suc a) plan u) → Fails (run_from 128 goal (suc b) plan u))
        → Fails (onward o (suc a) (λ u. run_from 128 goal (suc a) plan u)) → Fails
        (onward o (suc b) (λ u. run_from 128 goal (suc b) plan u))
    go (refused N) ih k = by (eqb N 21) N k
    go (table u) ih k = ih u k

module _ (goal : List Literals) (f : ℕ → Action) (k at : ℕ) (t : List Literals) where
  module _ (m n : ℕ) (u : List Literals) (e : step_table 128 (f m) t ≡ table u) (h : NoShorterPlan goal f k at t (n + 1)) where
    pub quiet_after : m < k → NoShorterPlan goal f k (at + 1) u n
    quiet_after l q i s =
        fails_place goal (map f q) u (suc at) (at + 1)
        (subst (λ (o : Outcome). Fails (onward o (suc at) (λ v. run_from 128 goal (suc at) (map f q) v))) e
        (h (m ∷ q) (l, i) (omega arith)))

    pub unchanged : u ≡ t → first_by goal f k at t n m ≡ nothing
    unchanged z =
        by_table goal f k at t m n u e
        ∙ ap (λ (x : List Literals). consed m (first_from goal f k (at + 1) x n)) z
        ∙ ap (consed m) (none_is (ran_from goal f (at + 1) t) (plans_of k n)
        (all_map (λ q. All (λ i. i < k) q × (length q ≡ n)) (λ q. Fails (ran_from goal f (at + 1) t q))
        (λ q w. fails_place goal (map f q) t at (at + 1) (h q w.0 (omega (arith, w.1)))) (plans_of k n) (plans_out k n)))

-- no shorter length had an answer
pub quiet_lengths : (goal : List Literals) (f : ℕ → Action) (k : ℕ) (t : List Literals) (n : ℕ)
    → first_below (first_from goal f k 0 t) n ≡ nothing → NoShorterPlan goal f k 0 t n
quiet_lengths goal f k t n e q i s =
    any_out (λ p. Fails (ran_from goal f 0 t p)) (λ p. p ≡ q) (λ p h r. subst (λ (x : List ℕ). Fails (ran_from goal f 0 t x)) r h)
    (plans_of k (length q))
    (none_each (ran_from goal f 0 t) (plans_of k (length q)) (each_nothing (first_from goal f k 0 t) n e (length q) s)) (plans_in k q i)

-- ---- no answer within so many moves
module _ (goal : List Literals) (f : ℕ → Action) (k : ℕ) (t : List Literals) where
  -- wherever the plans begin
  pub quiet_place : (a b n : ℕ) → NoShorterPlan goal f k a t n → NoShorterPlan goal f k b t n
  quiet_place a b n h q i s = fails_place goal (map f q) t a b (h q i s)

  -- so the plans of fewer moves have none
  pub quiet_none : (at n left : ℕ) → NoShorterPlan goal f k at t n → left < n → first_from goal f k at t left ≡ nothing
  quiet_none at n left h l =
      none_is (ran_from goal f at t) (plans_of k left)
      (all_map (λ q. All (λ i. i < k) q × (length q ≡ left)) (λ q. Fails (ran_from goal f at t q))
      (λ q w. h q w.0 (omega (arith, w.1))) (plans_of k left) (plans_out k left))

  -- where the plans of n moves have none either, it is so of one move more
  pub quiet_more : (at n : ℕ) → NoShorterPlan goal f k at t n → first_from goal f k at t n ≡ nothing → NoShorterPlan goal f k at t (n + 1)
  quiet_more at n h e q i s = go (ℕ_discrete (length q) n)
    where
      go : Dec (length q ≡ n) → Fails (ran_from goal f at t q)
      go (yes z) =
          any_out (λ p. Fails (ran_from goal f at t p)) (λ p. p ≡ q) (λ p w r. subst (λ (x : List ℕ). Fails (ran_from goal f at t x)) r w)
          (plans_of k (length q))
          (none_each (ran_from goal f at t) (plans_of k (length q)) (ap (λ (m : ℕ). first_of (ran_from goal f at t) (plans_of k m)) z ∙ e))
          (plans_in k q i)
      go (no z) = h q i (omega (arith, s, z))
