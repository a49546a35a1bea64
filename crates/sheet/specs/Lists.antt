-- Tests and statements over the members of a list, and lists made of lists.
use Rattle.std.specs.Prelude.{Bool, true, false, ◌&&◌, ◌||◌, List, [], ◌∷◌, ◌++◌, ◌⊎◌, ℕ, zero, suc}

module _ {A : Type 0} where
  -- P of some member
  abbrev pub Any : (A → Type 0) → List A → Type 0
  Any P [] = ⊥
  Any P (x ∷ xs) = P x ⊎ Any P xs

  -- P of each member
  abbrev pub All : (A → Type 0) → List A → Type 0
  All P [] = Unit {0}
  All P (x ∷ xs) = P x × All P xs

  -- some member passes the test
  abbrev pub any_of : (A → Bool) → List A → Bool
  any_of f [] = false
  any_of f (x ∷ xs) = f x || any_of f xs

  -- each member passes the test
  abbrev pub all_of : (A → Bool) → List A → Bool
  all_of f [] = true
  all_of f (x ∷ xs) = f x && all_of f xs

  abbrev pub add_if : Bool → A → List A → List A
  add_if true x xs = x ∷ xs
  add_if false x xs = xs

  -- the members that pass the test, in order
  abbrev pub keep : (A → Bool) → List A → List A
  keep f [] = []
  keep f (x ∷ xs) = add_if (f x) x (keep f xs)

  -- the lists that f makes of the members, one after the other
  abbrev pub collect : {B : Type 0} → (A → List B) → List A → List B
  collect f [] = []
  collect f (x ∷ xs) = f x ++ collect f xs

  -- the list in so many slots, those after it filled with d
  unfoldable pub pad : ℕ → A → List A → List A
  pad zero d xs = []
  pad (suc slots) d [] = d ∷ pad slots d []
  pad (suc slots) d (x ∷ xs) = x ∷ pad slots d xs
