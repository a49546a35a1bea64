-- The ways of a oneof-clause, one chosen alternative after the other, the others made false. For `starts::widen_oneof`. Assumes nothing.
use Prim.Native.Nat.{ℕ, ◌+◌, ◌≤◌, ◌<◌}
use mathlib.Core.Path.{◌≡◌, refl, sym, ap, ap₂, ◌∙◌}
use mathlib.Core.List.{List, [], ◌∷◌, ◌++◌}
use native.Mathlib.Numerals.{add-one}
use native.Mathlib.Omega.{arith}
use lib.ListN.{length, drop, take, get_or}
use lib.Seq.{drop-cons, take-suc}
use Rattle.std.proofs.lemmas.List.{drop_all}
use Rattle.sheet.specs.declared.Literals.{Literals}
use Rattle.sheet.specs.Literals.{no_literal, join, consistent}
use Rattle.sheet.specs.Lists.{keep, collect}
use Rattle.table.specs.Start.{falsify, Pick, picks, candidates, one_of}
use Rattle.table.specs.inner.Starts.{others}
use Rattle.table.proofs.laws.slots.ConsistentCandidates.{keep_split}
use Rattle.table.proofs.laws.starts.OtherAlternatives.{without}

-- the ways that choose an alternative from i on
unfoldable pub ways_from : List Literals → Literals → ℕ → List Literals
ways_from xs d i = collect (λ k. falsify k.rest (join d k.chosen)) (picks (take i xs) (drop i xs))

pub ways_start : (xs : List Literals) (d : Literals) → keep consistent (candidates (one_of xs) d) ≡ keep consistent (ways_from xs d 0)
unfolding ways_from
ways_start xs d = refl

module _ (xs : List Literals) (d : Literals) {n i : ℕ} (l : n ≡ length xs) where
  pub ways_step : i < n → keep consistent (ways_from xs d i) ≡ keep consistent (falsify (others i 0 xs) (join d (get_or xs i no_literal)))
      ++ keep consistent (ways_from xs d (i + 1))
  unfolding ways_from
  ways_step lt = keep_split (ways_from xs d i) (falsify (others i 0 xs) (join d a)) (ways_from xs d (i + 1)) split_up
    where
      a : Literals
      a = get_or xs i no_literal

      way : Pick → List Literals
      way k = falsify k.rest (join d k.chosen)

      here : i < length xs
      here = omega arith

      zero_plus : i ≡ 0 + i
      zero_plus = omega arith

      more : take i xs ++ a ∷ [] ≡ take (i + 1) xs
      more = sym (take-suc xs i no_literal here) ∙ ap (λ (k : ℕ). take k xs) (sym (add-one i))

      split_up : ways_from xs d i ≡ falsify (others i 0 xs) (join d a) ++ ways_from xs d (i + 1)
      split_up =
          ap (λ (r : List Literals). collect way (picks (take i xs) r)) (drop-cons xs i no_literal here)
          ∙ ap₂ (λ (y z : List Literals). y ++ z)
          (ap (λ (y : List Literals). falsify y (join d a)) (sym (ap (λ (k : ℕ). others k 0 xs) zero_plus ∙ without 0 i xs)))
          (ap₂ (λ (y z : List Literals). collect way (picks y z)) more (ap (λ (k : ℕ). drop k xs) (sym (add-one i))))

  pub ways_end : n ≤ i → keep consistent (ways_from xs d i) ≡ []
  unfolding ways_from
  ways_end le =
      ap (λ (r : List Literals). keep consistent (collect (λ k. falsify k.rest (join d k.chosen)) (picks (take i xs) r)))
      (drop_all i xs (omega arith))
