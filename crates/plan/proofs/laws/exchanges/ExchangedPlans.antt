-- One exchange by its place: it swaps two moves that do not touch, and else leaves the plan as it was. For `exchange` in proofs/Demands
-- (demand 3) and W2. Assumes nothing.
use mathlib.Core.Path.{◌≡◌, refl, ap, ◌∙◌}
use mathlib.Core.Bool.{Bool, true, false}
use mathlib.Core.List.{List, [], ◌∷◌, ◌++◌}
use Prim.Native.Nat.{ℕ, zero, suc, ◌+◌, ◌<◌}
use native.Mathlib.Omega.{arith}
use lib.ListN.{length}
use Rattle.sheet.specs.Problem.{Action}
use Rattle.plan.specs.Exchange.{touch, swap, exchange_by, exchanges}

module _ (f : ℕ → Action) where
  exchange_at : (a b : ℕ) (first rest : List ℕ) → exchange_by touch f (suc (length first)) (first ++ (a ∷ b ∷ rest)) ≡ first
      ++ swap (touch (f a) (f b)) a b rest
  exchange_at a b [] rest = refl
  exchange_at a b (c ∷ []) rest = refl
  exchange_at a b (c ∷ d ∷ first) rest = ap (λ (r : List ℕ). c ∷ r) (exchange_at a b (d ∷ first) rest)

  at_place : (k a b : ℕ) (first rest : List ℕ) → k ≡ length first + 1 → exchanges f (k ∷ []) (first ++ (a ∷ b ∷ rest)) ≡ first
      ++ swap (touch (f a) (f b)) a b rest
  at_place k a b first rest h = let e : k ≡ suc (length first) = omega arith in ap
      (λ (i : ℕ). exchange_by touch f i (first ++ (a ∷ b ∷ rest))) e ∙ exchange_at a b first rest

  pub exchange_swaps : (k a b : ℕ) (first rest : List ℕ) → k ≡ length first + 1 → touch (f a) (f b) ≡ false
      → exchanges f (k ∷ []) (first ++ (a ∷ b ∷ rest)) ≡ first ++ (b ∷ a ∷ rest)
  exchange_swaps k a b first rest h e = at_place k a b first rest h ∙ ap (λ (t : Bool). first ++ swap t a b rest) e

  pub exchange_stays : (k a b : ℕ) (first rest : List ℕ) → k ≡ length first + 1 → touch (f a) (f b) ≡ true
      → exchanges f (k ∷ []) (first ++ (a ∷ b ∷ rest)) ≡ first ++ (a ∷ b ∷ rest)
  exchange_stays k a b first rest h e = at_place k a b first rest h ∙ ap (λ (t : Bool). first ++ swap t a b rest) e

  pub exchange_beyond : (k : ℕ) (plan : List ℕ) → length plan < k + 1 → exchanges f (k ∷ []) plan ≡ plan
  exchange_beyond zero plan h = refl
  exchange_beyond (suc k) [] h = refl
  exchange_beyond (suc k) (a ∷ []) h = refl
  exchange_beyond (suc zero) (a ∷ b ∷ plan) h = absurd (omega arith)
  exchange_beyond (suc (suc k)) (a ∷ b ∷ plan) h = ap (λ (r : List ℕ). a ∷ r) (exchange_beyond (suc k) (b ∷ plan) (omega arith))
