-- Loops that test the members of a list by their numbers: what a turn at i adds, and what is left at the end. For attributes `using`
-- and for grind. Assumes nothing.
use Rattle.std.proofs.Common.{◌≡◌, ℕ, ◌+◌, ◌<◌, ◌≤◌, List, Bool, true, false, ◌&&◌, ◌||◌, length, get_or, drop, ap}
use Rattle.std.proofs.lemmas.List.{at_drop_more}
use lib.ListN.{drop_of_length-le}
use Rattle.sheet.specs.Lists.{any_of, all_of}

module _ {A : Type 0} (f : A → Bool) (xs : List A) (i : ℕ) where
  pub all_at : (d : A) → i < length xs → all_of f (drop i xs) ≡ (f (get_or xs i d) && all_of f (drop (i + 1) xs))
  all_at d h = at_drop_more (all_of f) xs i d h

  pub all_done : length xs ≤ i → all_of f (drop i xs) ≡ true
  all_done h = ap (all_of f) (drop_of_length-le xs {i = i} h)

  pub any_at : (d : A) → i < length xs → any_of f (drop i xs) ≡ (f (get_or xs i d) || any_of f (drop (i + 1) xs))
  any_at d h = at_drop_more (any_of f) xs i d h

  pub any_done : length xs ≤ i → any_of f (drop i xs) ≡ false
  any_done h = ap (any_of f) (drop_of_length-le xs {i = i} h)
