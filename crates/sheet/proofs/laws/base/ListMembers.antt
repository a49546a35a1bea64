-- The members of a list: some of them, each of them, those that pass a test, those that a function makes. For sets of literals
-- (`literals/ProperSets`), and in table for the least candidates and the prime implicates. Assumes nothing.
use mathlib.Core.Path.{◌≡◌, refl, sym, subst}
use mathlib.Core.Logic.{inl, inr}
use mathlib.Core.Bool.{Bool, true, false}
use mathlib.Core.List.Memᴰ
use mathlib.Core.List.{List, [], ◌∷◌, Memᴰ}
use lib.Dec.{T}
use Rattle.sheet.specs.Lists.{Any, All, add_if, keep, collect}
use Rattle.sheet.proofs.laws.base.Bools.{both, false_T}
use Rattle.sheet.proofs.laws.base.ListFacts.{any_map, any_collect, any_collected, all_keep}

-- P of some member, of each member, and of the members themselves
pub any_member : {A : Type 0} (P : A → Type 0) (xs : List A) (x : A) → Memᴰ x xs → P x → Any P xs
any_member {A = A} P [] x x4 h = elim x4 [ ]
any_member P (y ∷ xs) x (Memᴰ.head e) h = inl (subst P e h)
any_member P (y ∷ xs) x (Memᴰ.tail m) h = inr (any_member P xs x m h)

pub all_members : {A : Type 0} (P : A → Type 0) (xs : List A) → ((x : A) → Memᴰ x xs → P x) → All P xs
all_members P [] f = tt
all_members P (x ∷ xs) f = (f x (Memᴰ.head refl), all_members P xs (λ y m. f y (Memᴰ.tail m)))

-- a member that passes the test is kept
pub any_passed : {A : Type 0} (f : A → Bool) (P : A → Type 0) (xs : List A) → Any (λ x. P x × T (f x)) xs → Any P (keep f xs)
any_passed f P [] h = h
any_passed f P (x ∷ xs) h = go (f x) refl h (any_passed f P xs)
  where
    go : (b : Bool) → f x ≡ b → Any (λ y. P y × T (f y)) (x ∷ xs) → (Any (λ y. P y × T (f y)) xs → Any P (keep f xs))
        → Any P (add_if b x (keep f xs))
    go true e (inl p) k = inl p.0
    go true e (inr r) k = inr (k r)
    go false e (inl p) k = both (f x) p.1 (false_T (f x) e)
    go false e (inr r) k = k r

module _ {A : Type 0} where
  pub some_member : (P : A → Type 0) (xs : List A) → Any P xs → (x : A) × Memᴰ x xs × P x
  some_member P [] h = absurd h
  some_member P (x ∷ xs) (inl p) = (x, Memᴰ.head refl, p)
  some_member P (x ∷ xs) (inr r) = let q = some_member P xs r in (q.0, Memᴰ.tail q.1, q.2)

  pub each_member : (P : A → Type 0) (xs : List A) → All P xs → (x : A) → Memᴰ x xs → P x
  each_member P [] h x x4 = elim x4 [ ]
  each_member P (y ∷ xs) h x (Memᴰ.head e) = subst P (sym e) h.0
  each_member P (y ∷ xs) h x (Memᴰ.tail m) = each_member P xs h.1 x m

  -- to be a member is to be equal to some member
  is_member : (x : A) (xs : List A) → Any (λ y. x ≡ y) xs → Memᴰ x xs
  is_member x xs h = let q = some_member (λ y. x ≡ y) xs h in Memᴰ.cast q.2 q.1

  member_is : (x : A) (xs : List A) → Memᴰ x xs → Any (λ y. x ≡ y) xs
  member_is x xs m = any_member (λ y. x ≡ y) xs x m refl

  -- the members that pass a test
  pub keep_member : (f : A → Bool) (xs : List A) (x : A) → Memᴰ x (keep f xs) → Memᴰ x xs × T (f x)
  keep_member f xs =
      each_member (λ y. Memᴰ y xs × T (f y)) (keep f xs)
      (all_keep f (λ y. Memᴰ y xs) xs (all_members (λ y. Memᴰ y xs) xs (λ y k. k)))

  pub member_keep : (f : A → Bool) (xs : List A) (x : A) → Memᴰ x xs → T (f x) → Memᴰ x (keep f xs)
  member_keep f xs x m t = is_member x (keep f xs) (any_passed f (λ y. x ≡ y) xs (any_member (λ y. (x ≡ y) × T (f y)) xs x m (refl, t)))

module _ {A B : Type 0} where
  pub collect_member : (f : A → List B) (xs : List A) (y : B) → Memᴰ y (collect f xs) → (x : A) × Memᴰ x xs × Memᴰ y (f x)
  collect_member f xs y m =
      some_member (λ x. Memᴰ y (f x)) xs
      (any_map (λ x. Any (λ z. y ≡ z) (f x)) (λ x. Memᴰ y (f x)) (λ x. is_member y (f x)) xs
      (any_collect f (λ z. y ≡ z) xs (member_is y (collect f xs) m)))

  pub member_collect : (f : A → List B) (xs : List A) (x : A) (y : B) → Memᴰ x xs → Memᴰ y (f x) → Memᴰ y (collect f xs)
  member_collect f xs x y m k =
      is_member y (collect f xs) (any_collected f (λ z. y ≡ z) xs (any_member (λ z. Any (λ v. y ≡ v) (f z)) xs x m (member_is y (f x) k)))
