-- Statements over the members of a list (`All`, `Any`), and tests of them. For the laws of lists in table and plan. Assumes nothing.
use mathlib.Core.Path.{◌≡◌, refl, ap, ◌∙◌}
use mathlib.Core.Bool.{Bool, true, false, not, ◌||◌}
use mathlib.Core.List.{List, [], ◌∷◌, ◌++◌, map}
use mathlib.Core.Logic.{◌⊎◌, inl, inr}
use Prim.Native.Nat.{ℕ, zero, suc, ◌<◌}
use native.Mathlib.Nat.{not-suc-le-zero, le_of_suc-le-suc}
use native.Mathlib.Omega.{arith}
use lib.Dec.{T}
use lib.ListN.{length, get_or, take, drop}
use Rattle.sheet.specs.Lists.{Any, All, any_of, all_of, add_if, keep, collect}
use Rattle.sheet.proofs.laws.base.Bools.{T_false, true_T, false_T, and_l, and_r, and_in, and_not, or_l, or_r, or_out, or_not_l, or_not_r}

module _ {A : Type 0} where
  pub any_map : (P Q : A → Type 0) → ((x : A) → P x → Q x) → (xs : List A) → Any P xs → Any Q xs
  any_map P Q f [] h = h
  any_map P Q f (x ∷ xs) (inl p) = inl (f x p)
  any_map P Q f (x ∷ xs) (inr r) = inr (any_map P Q f xs r)

  pub all_map : (P Q : A → Type 0) → ((x : A) → P x → Q x) → (xs : List A) → All P xs → All Q xs
  all_map P Q f [] h = tt
  all_map P Q f (x ∷ xs) h = (f x h.0, all_map P Q f xs h.1)

  -- a fact of all members and a fact of some member meet in some member
  pub any_with : (P Q R : A → Type 0) → ((x : A) → P x → Q x → R x) → (xs : List A) → All P xs → Any Q xs → Any R xs
  any_with P Q R f [] h k = k
  any_with P Q R f (x ∷ xs) h (inl q) = inl (f x h.0 q)
  any_with P Q R f (x ∷ xs) h (inr r) = inr (any_with P Q R f xs h.1 r)

  pub all_with : (P Q R : A → Type 0) → ((x : A) → P x → Q x → R x) → (xs : List A) → All P xs → All Q xs → All R xs
  all_with P Q R f [] h k = tt
  all_with P Q R f (x ∷ xs) h k = (f x h.0 k.0, all_with P Q R f xs h.1 k.1)

  -- what follows from any member
  pub any_out : {X : Type 0} (P Q : A → Type 0) → ((x : A) → P x → Q x → X) → (xs : List A) → All P xs → Any Q xs → X
  any_out P Q f [] h k = absurd k
  any_out P Q f (x ∷ xs) h (inl q) = f x h.0 q
  any_out P Q f (x ∷ xs) h (inr r) = any_out P Q f xs h.1 r

  pub all_by : (P : A → Type 0) → ((x : A) → P x) → (xs : List A) → All P xs
  all_by P f [] = tt
  all_by P f (x ∷ xs) = (f x, all_by P f xs)

  pub any_append_l : (P : A → Type 0) (xs ys : List A) → Any P xs → Any P (xs ++ ys)
  any_append_l P [] ys h = absurd h
  any_append_l P (x ∷ xs) ys (inl p) = inl p
  any_append_l P (x ∷ xs) ys (inr r) = inr (any_append_l P xs ys r)

  pub any_append_r : (P : A → Type 0) (xs ys : List A) → Any P ys → Any P (xs ++ ys)
  any_append_r P [] ys h = h
  any_append_r P (x ∷ xs) ys h = inr (any_append_r P xs ys h)

  pub any_append : (P : A → Type 0) (xs ys : List A) → Any P (xs ++ ys) → Any P xs ⊎ Any P ys
  any_append P [] ys h = inr h
  any_append P (x ∷ xs) ys (inl p) = inl (inl p)
  any_append P (x ∷ xs) ys (inr r) = go (any_append P xs ys r)
    where
      go : Any P xs ⊎ Any P ys → (P x ⊎ Any P xs) ⊎ Any P ys
      go (inl l) = inl (inr l)
      go (inr q) = inr q

  pub all_append : (P : A → Type 0) (xs ys : List A) → All P xs → All P ys → All P (xs ++ ys)
  all_append P [] ys h k = k
  all_append P (x ∷ xs) ys h k = (h.0, all_append P xs ys h.1 k)

  pub all_parts : (P : A → Type 0) (xs ys : List A) → All P (xs ++ ys) → All P xs × All P ys
  all_parts P [] ys k = (tt, k)
  all_parts P (x ∷ xs) ys k = let r = all_parts P xs ys k.1 in ((k.0, r.0), r.1)

  -- a member of a list has what all have, and what each has all have
  pub all_at : (P : A → Type 0) (xs : List A) (i : ℕ) (e : A) → i < length xs → All P xs → P (get_or xs i e)
  all_at P [] i e h p = absurd (not-suc-le-zero h)
  all_at P (x ∷ xs) zero e h p = p.0
  all_at P (x ∷ xs) (suc i) e h p = all_at P xs i e (le_of_suc-le-suc h) p.1

  pub all_places : (P : A → Type 0) (xs : List A) (e : A) → ((i : ℕ) → i < length xs → P (get_or xs i e)) → All P xs
  all_places P [] e f = tt
  all_places P (x ∷ xs) e f = (f 0 (omega arith), all_places P xs e (λ i h. f (suc i) (omega arith)))

  -- tests
  pub any_test : (f : A → Bool) (xs : List A) → T (any_of f xs) → Any (λ x. T (f x)) xs
  any_test f [] t = t
  any_test f (x ∷ xs) t = go (or_out (f x) (any_of f xs) t) (any_test f xs)
    where
      go : T (f x) ⊎ T (any_of f xs) → (T (any_of f xs) → Any (λ y. T (f y)) xs) → T (f x) ⊎ Any (λ y. T (f y)) xs
      go (inl l) k = inl l
      go (inr r) k = inr (k r)

  pub any_tested : (f : A → Bool) (P : A → Type 0) → ((x : A) → P x → T (f x)) → (xs : List A) → Any P xs → T (any_of f xs)
  any_tested f P g [] h = h
  any_tested f P g (x ∷ xs) (inl h) = or_l (f x) (any_of f xs) (g x h)
  any_tested f P g (x ∷ xs) (inr h) = or_r (f x) (any_of f xs) (any_tested f P g xs h)

  pub any_none : (f : A → Bool) (xs : List A) → T (not (any_of f xs)) → All (λ x. T (not (f x))) xs
  any_none f [] t = tt
  any_none f (x ∷ xs) t = (or_not_l (f x) (any_of f xs) t, any_none f xs (or_not_r (f x) (any_of f xs) t))

  pub none_any : (f : A → Bool) (xs : List A) → All (λ x. T (not (f x))) xs → any_of f xs ≡ false
  none_any f [] h = refl
  none_any f (x ∷ xs) h = ap (λ (b : Bool). b || any_of f xs) (T_false (f x) h.0) ∙ none_any f xs h.1

  pub all_test : (f : A → Bool) (xs : List A) → T (all_of f xs) → All (λ x. T (f x)) xs
  all_test f [] t = tt
  all_test f (x ∷ xs) t = (and_l (f x) (all_of f xs) t, all_test f xs (and_r (f x) (all_of f xs) t))

  pub all_tested : (f : A → Bool) (xs : List A) → All (λ x. T (f x)) xs → T (all_of f xs)
  all_tested f [] h = tt
  all_tested f (x ∷ xs) h = and_in (f x) (all_of f xs) h.0 (all_tested f xs h.1)

  pub all_fails : (f : A → Bool) (xs : List A) → T (not (all_of f xs)) → Any (λ x. T (not (f x))) xs
  all_fails f [] t = t
  all_fails f (x ∷ xs) t = go (and_not (f x) (all_of f xs) t) (all_fails f xs)
    where
      go : T (not (f x)) ⊎ T (not (all_of f xs)) → (T (not (all_of f xs)) → Any (λ y. T (not (f y))) xs) → T (not (f x))
          ⊎ Any (λ y. T (not (f y))) xs
      go (inl l) k = inl l
      go (inr r) k = inr (k r)

  -- members kept
  pub any_keep : (f : A → Bool) (P : A → Type 0) (xs : List A) → Any P (keep f xs) → Any P xs
  any_keep f P [] h = h
  any_keep f P (x ∷ xs) h = go (f x) (any_keep f P xs) h
    where
      go : (b : Bool) → (Any P (keep f xs) → Any P xs) → Any P (add_if b x (keep f xs)) → P x ⊎ Any P xs
      go true k (inl p) = inl p
      go true k (inr r) = inr (k r)
      go false k r = inr (k r)

  pub any_kept : (f : A → Bool) (P : A → Type 0) (xs : List A) → Any P xs → Any (λ x. P x × T (not (f x))) xs ⊎ Any P (keep f xs)
  any_kept f P [] h = inl h
  any_kept f P (x ∷ xs) h = go (f x) refl (any_kept f P xs) h
    where
      go : (b : Bool) → f x ≡ b → (Any P xs → Any (λ y. P y × T (not (f y))) xs ⊎ Any P (keep f xs)) → P x ⊎ Any P xs
          → Any (λ y. P y × T (not (f y))) (x ∷ xs) ⊎ Any P (add_if b x (keep f xs))
      go true e k (inl p) = inr (inl p)
      go false e k (inl p) = inl (inl (p, false_T (f x) e))
      go true e k (inr r) = more (k r)
        where
          more : Any (λ y. P y × T (not (f y))) xs ⊎ Any P (keep f xs) → Any (λ y. P y × T (not (f y))) (x ∷ xs) ⊎ (P x ⊎ Any P (keep f xs))
          more (inl l) = inl (inr l)
          more (inr q) = inr (inr q)
      go false e k (inr r) = more (k r)
        where
          more : Any (λ y. P y × T (not (f y))) xs ⊎ Any P (keep f xs) → Any (λ y. P y × T (not (f y))) (x ∷ xs) ⊎ Any P (keep f xs)
          more (inl l) = inl (inr l)
          more (inr q) = inr q

  pub all_keep : (f : A → Bool) (P : A → Type 0) (xs : List A) → All P xs → All (λ x. P x × T (f x)) (keep f xs)
  all_keep f P [] h = tt
  all_keep f P (x ∷ xs) h = go (f x) refl (all_keep f P xs h.1)
    where
      go : (b : Bool) → f x ≡ b → All (λ y. P y × T (f y)) (keep f xs) → All (λ y. P y × T (f y)) (add_if b x (keep f xs))
      go true e k = ((h.0, true_T (f x) e), k)
      go false e k = k

module _ {A B : Type 0} where
  pub any_image : (f : A → B) (P : B → Type 0) (xs : List A) → Any P (map f xs) → Any (λ x. P (f x)) xs
  any_image f P [] h = h
  any_image f P (x ∷ xs) (inl p) = inl p
  any_image f P (x ∷ xs) (inr r) = inr (any_image f P xs r)

  pub any_imaged : (f : A → B) (P : B → Type 0) (xs : List A) → Any (λ x. P (f x)) xs → Any P (map f xs)
  any_imaged f P [] h = h
  any_imaged f P (x ∷ xs) (inl p) = inl p
  any_imaged f P (x ∷ xs) (inr r) = inr (any_imaged f P xs r)

  pub all_imaged : (f : A → B) (P : B → Type 0) (xs : List A) → All (λ x. P (f x)) xs → All P (map f xs)
  all_imaged f P [] h = tt
  all_imaged f P (x ∷ xs) h = (h.0, all_imaged f P xs h.1)

  pub any_collect : (f : A → List B) (P : B → Type 0) (xs : List A) → Any P (collect f xs) → Any (λ x. Any P (f x)) xs
  any_collect f P [] h = h
  any_collect f P (x ∷ xs) h = go (any_append P (f x) (collect f xs) h) (any_collect f P xs)
    where
      go : Any P (f x) ⊎ Any P (collect f xs) → (Any P (collect f xs) → Any (λ y. Any P (f y)) xs) → Any P (f x) ⊎ Any (λ y. Any P (f y)) xs
      go (inl l) k = inl l
      go (inr r) k = inr (k r)

  pub any_collected : (f : A → List B) (P : B → Type 0) (xs : List A) → Any (λ x. Any P (f x)) xs → Any P (collect f xs)
  any_collected f P [] h = h
  any_collected f P (x ∷ xs) (inl p) = any_append_l P (f x) (collect f xs) p
  any_collected f P (x ∷ xs) (inr r) = any_append_r P (f x) (collect f xs) (any_collected f P xs r)

  pub all_collected : (f : A → List B) (P : B → Type 0) (xs : List A) → All (λ x. All P (f x)) xs → All P (collect f xs)
  all_collected f P [] h = tt
  all_collected f P (x ∷ xs) h = all_append P (f x) (collect f xs) h.0 (all_collected f P xs h.1)

  -- the same w at whichever member
  pub any_choose : (P : A → B → Type 0) (R : B → Type 0) (xs : List A) → Any (λ x. (w : B) × (P x w × R w)) xs → (w : B)
      × (Any (λ x. P x w) xs × R w)
  any_choose P R [] h = absurd h
  any_choose P R (x ∷ xs) (inl p) = (p.0, (inl p.1.0, p.1.1))
  any_choose P R (x ∷ xs) (inr r) = let q = any_choose P R xs r in (q.0, (inr q.1.0, q.1.1))

-- ---- the first members, and those after them
pub map_take : {A B : Type 0} (f : A → B) (k : ℕ) (xs : List A) → map f (take k xs) ≡ take k (map f xs)
map_take f zero xs = refl
map_take f (suc k) [] = refl
map_take {A} {B} f (suc k) (x ∷ xs) = ap {B = List B} (λ r. f x ∷ r) (map_take f k xs)

pub map_drop : {A B : Type 0} (f : A → B) (k : ℕ) (xs : List A) → map f (drop k xs) ≡ drop k (map f xs)
map_drop f zero xs = refl
map_drop f (suc k) [] = refl
map_drop f (suc k) (x ∷ xs) = map_drop f k xs

pub all_drop : {A : Type 0} (P : A → Type 0) (k : ℕ) (xs : List A) → All P xs → All P (drop k xs)
all_drop P zero xs h = h
all_drop P (suc k) [] h = tt
all_drop P (suc k) (x ∷ xs) h = all_drop P k xs h.1
