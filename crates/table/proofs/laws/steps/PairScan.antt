-- 25 asked pair by pair, over all entries at once. For `steps::opposed` and `steps::conflicting`. Assumes nothing.
use mathlib.Core.Path.{◌≡◌, refl, sym, ap, ◌∙◌}
use mathlib.Core.Bool.{Bool, true, false, ◌&&◌, ◌||◌}
use mathlib.Core.List.{List, [], ◌∷◌}
use Prim.Native.Nat.{ℕ, ◌+◌, ◌<◌, ◌≤◌}
use lib.ListN.{length, get_or, drop, drop_of_length-le}
use Rattle.std.proofs.lemmas.List.{at_drop_more}
use Rattle.sheet.specs.declared.Literals.{Literals}
use Rattle.sheet.specs.declared.Effect.{Effect}
use Rattle.sheet.specs.Literals.{join, clash, consistent}
use Rattle.sheet.specs.Lists.{any_of}
use Rattle.table.specs.inner.Pairs.{opposed, contradicts}

-- ---- two tests of the members, and members of two lists
module _ {A : Type 0} where
  any_or : (f g : A → Bool) (xs : List A) → any_of (λ x. f x || g x) xs ≡ (any_of f xs || any_of g xs)
  any_or f g [] = refl
  any_or f g (x ∷ xs) = ap (λ (b : Bool). (f x || g x) || b) (any_or f g xs) ∙ turned (f x) (g x) (any_of f xs) (any_of g xs)
    where
      turned : (a b c d : Bool) → ((a || b) || (c || d)) ≡ ((a || c) || (b || d))
      turned true b c d = refl
      turned false true true d = refl
      turned false true false d = refl
      turned false false c d = refl

  no_any : (xs : List A) → any_of (λ x. false) xs ≡ false
  no_any [] = refl
  no_any (x ∷ xs) = no_any xs

  any_swap : {B : Type 0} (p : A → B → Bool) (xs : List A) (ys : List B)
      → any_of (λ x. any_of (p x) ys) xs ≡ any_of (λ y. any_of (λ x. p x y) xs) ys
  any_swap p xs [] = no_any xs
  any_swap p xs (y ∷ ys) = any_or (λ x. p x y) (λ x. any_of (p x) ys) xs ∙ ap (λ (b : Bool). any_of (λ x. p x y) xs || b) (any_swap p xs ys)

-- ---- two effects whose results do not clash are opposed nowhere
pub agreeing : (e f : Effect) (t : List Literals) → clash e.result f.result ≡ false → any_of (λ d. opposed e d f) t ≡ false
agreeing e f t h = ap (λ (b : Bool). any_of (λ d. b && consistent (join d (join e.condition f.condition))) t) h ∙ no_any t

-- ---- the effects from i on: the one at i, e, is opposed to one of those after it, or two of those after it are opposed; none is left
module _ (es : List Effect) (t : List Literals) (i : ℕ) where
  pub pairs_turn : (d e : Effect) → i < length es → e ≡ get_or es i d
      → any_of (contradicts (drop i es)) t
      ≡ (any_of (λ f. any_of (λ w. opposed e w f) t) (drop (i + 1) es) || any_of (contradicts (drop (i + 1) es)) t)
  unfolding contradicts
  pairs_turn d e h is =
      at_drop_more (λ (x : List Effect). any_of (contradicts x) t) es i d h
      ∙ ap (λ (x : Effect). any_of (contradicts (x ∷ drop (i + 1) es)) t) (sym is)
      ∙ any_or (λ x. any_of (opposed e x) (drop (i + 1) es)) (contradicts (drop (i + 1) es)) t
      ∙ ap (λ (x : Bool). x || any_of (contradicts (drop (i + 1) es)) t) (any_swap (opposed e) t (drop (i + 1) es))

  pub pairs_end : length es ≤ i → any_of (contradicts (drop i es)) t ≡ false
  unfolding contradicts
  pairs_end h = ap (λ (x : List Effect). any_of (contradicts x) t) (drop_of_length-le es {i = i} h) ∙ no_any t
