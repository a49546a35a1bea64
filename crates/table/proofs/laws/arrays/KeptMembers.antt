-- The members of a list that pass a test: of two parts, all of them, one more. For `Slots::remove`, and for putting (`slots/PutInvariants`,
-- `PutFates`, `ConsistentCandidates`). Assumes nothing.
use mathlib.Core.Path.{◌≡◌, refl, ap, ◌∙◌}
use mathlib.Core.Bool.{Bool, true, false, not, ◌||◌, true≢false}
use mathlib.Core.List.{List, [], ◌∷◌, ◌++◌, append-nil}
use Prim.Native.Nat.{ℕ, suc, ◌+◌, ◌≤◌, ◌<◌}
use native.Mathlib.Nat.{le_of_suc-le-suc}
use native.Mathlib.Numerals.{add-one}
use native.Mathlib.Omega.{arith}
use lib.ListN.{length, get_or, take}
use lib.Seq.{take-suc}
use Rattle.sheet.specs.declared.Literals.{Literals}
use Rattle.sheet.specs.Literals.{no_literal}
use Rattle.sheet.specs.Lists.{any_of, add_if, keep}

pub keep_append : (f : Literals → Bool) (s r : List Literals) → keep f (s ++ r) ≡ keep f s ++ keep f r
keep_append f [] r = refl
keep_append f (x ∷ s) r = at (f x) (keep_append f s r)
  where
    at : (b : Bool) → keep f (s ++ r) ≡ keep f s ++ keep f r → add_if b x (keep f (s ++ r)) ≡ add_if b x (keep f s) ++ keep f r
    at true e = ap (λ (z : List Literals). x ∷ z) e
    at false e = e

pub keep_length : (f : Literals → Bool) (s : List Literals) → length (keep f s) ≤ length s
keep_length f [] = omega arith
keep_length f (x ∷ s) = at (f x) (keep_length f s)
  where
    at : (b : Bool) → length (keep f s) ≤ length s → length (add_if b x (keep f s)) ≤ suc (length s)
    at true h = omega arith
    at false h = omega arith

-- where none goes, all stay
pub keep_all : (f : Literals → Bool) (s : List Literals) → length s ≤ length (keep f s) → keep f s ≡ s
keep_all f [] h = refl
keep_all f (x ∷ s) h = at (f x) h (λ k. keep_all f s k)
  where
    at : (b : Bool) → suc (length s) ≤ length (add_if b x (keep f s)) → (length s ≤ length (keep f s) → keep f s ≡ s)
        → add_if b x (keep f s) ≡ x ∷ s
    at true k rec = ap (λ (z : List Literals). x ∷ z) (rec (le_of_suc-le-suc k))
    at false k rec = absurd (omega (arith, keep_length f s))

one_more : (es : List Literals) (i : ℕ) (e : Literals) → i < length es → get_or es i no_literal ≡ e → take (i + 1) es ≡ take i es ++ e ∷ []
one_more es i e lt is = ap (λ (j : ℕ). take j es) (add-one i) ∙ take-suc es i no_literal lt ∙ ap (λ (x : Literals). take i es ++ x ∷ []) is

module _ (f : Literals → Bool) (es : List Literals) (i : ℕ) (e : Literals) (lt : i < length es) (is : get_or es i no_literal ≡ e) where
  keep_step : keep f (take (i + 1) es) ≡ keep f (take i es) ++ add_if (f e) e []
  keep_step = ap (keep f) (one_more es i e lt is) ∙ keep_append f (take i es) (e ∷ [])

  pub keep_more : f e ≡ true → keep f (take (i + 1) es) ≡ keep f (take i es) ++ e ∷ []
  keep_more t = keep_step ∙ ap (λ (b : Bool). keep f (take i es) ++ add_if b e []) t

  pub keep_less : f e ≡ false → keep f (take (i + 1) es) ≡ keep f (take i es)
  keep_less t = keep_step ∙ ap (λ (b : Bool). keep f (take i es) ++ add_if b e []) t ∙ append-nil (keep f (take i es))

-- where no member passes, those that do not are all
pub none_goes : (f : Literals → Bool) (s : List Literals) → any_of f s ≡ false → keep (λ e. not (f e)) s ≡ s
none_goes f [] h = refl
none_goes f (x ∷ s) h = at (f x) h (λ k. none_goes f s k)
  where
    at : (b : Bool) → (b || any_of f s) ≡ false → (any_of f s ≡ false → keep (λ e. not (f e)) s ≡ s)
        → add_if (not b) x (keep (λ e. not (f e)) s) ≡ x ∷ s
    at true k rec = absurd (true≢false k)
    at false k rec = ap (λ (z : List Literals). x ∷ z) (rec k)
