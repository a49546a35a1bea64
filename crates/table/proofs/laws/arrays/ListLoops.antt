-- Whether some of the members before a place pass a test, or the one there. For `Entries::first_above` and `Slots::offer_by_newest`.
-- Assumes nothing.
use mathlib.Core.Path.{◌≡◌, refl, ap, ◌∙◌}
use mathlib.Core.Bool.{Bool, true, false, ◌||◌}
use mathlib.Core.List.{List, [], ◌∷◌, ◌++◌}
use Prim.Native.Nat.{ℕ, zero, suc, ◌+◌, ◌<◌}
use native.Mathlib.Nat.{le_of_suc-le-suc, not-suc-le-zero}
use lib.ListN.{length, get_or, take}
use Rattle.std.proofs.lemmas.List.{take_more}
use Rattle.sheet.specs.Lists.{any_of}

module _ {A : Type 0} (f : A → Bool) where
  or_later : (a b c : Bool) → (a || (b || c)) ≡ ((a || b) || c)
  or_later true b c = refl
  or_later false b c = refl

  any_last : (xs : List A) (x : A) → any_of f (xs ++ x ∷ []) ≡ (any_of f xs || f x)
  any_last [] x = at (f x)
    where
      at : (b : Bool) → (b || false) ≡ b
      at true = refl
      at false = refl
  any_last (y ∷ ys) x = ap (λ (b : Bool). f y || b) (any_last ys x) ∙ or_later (f y) (any_of f ys) (f x)

  -- some member before the next place passes
  pub any_more : (xs : List A) (i : ℕ) (d : A) → i < length xs → any_of f (take (i + 1) xs) ≡ (any_of f (take i xs) || f (get_or xs i d))
  any_more xs i d lt = ap (any_of f) (take_more xs i d lt) ∙ any_last (take i xs) (get_or xs i d)

  or_true : (b : Bool) → (b || true) ≡ true
  or_true true = refl
  or_true false = refl

  -- some member passes: that of a place
  pub passes_at : (xs : List A) (i : ℕ) (d : A) → i < length xs → f (get_or xs i d) ≡ true → any_of f xs ≡ true
  passes_at [] i d lt e = absurd (not-suc-le-zero lt)
  passes_at (x ∷ xs) zero d lt e = ap (λ (b : Bool). b || any_of f xs) e
  passes_at (x ∷ xs) (suc i) d lt e = ap (λ (b : Bool). f x || b) (passes_at xs i d (le_of_suc-le-suc lt) e) ∙ or_true (f x)
