-- Lists in more slots than they have members, filled up with one value (`pad`). For the plan in its slots (src/reader.rt), and for slots in
-- table and plan. Assumes nothing.
use mathlib.Core.Path.{◌≡◌, refl, sym, ap}
use mathlib.Core.List.{List, [], ◌∷◌, ◌++◌, map}
use Prim.Native.Nat.{ℕ, zero, suc, ◌≤◌, ◌<◌}
use native.Mathlib.Omega.{arith}
use native.Mathlib.Nat.{le_of_suc-le-suc, not-suc-le-zero, suc-ne-zero, suc_inj}
use lib.ListN.{length, get_or, set, take, drop, replicate}
use Rattle.sheet.specs.Lists.{pad}

-- the first slots of a padded list are the list
pub take_pad : {A : Type 0} (n : ℕ) (d : A) (xs : List A) → length xs ≤ n → take (length xs) (pad n d xs) ≡ xs
unfolding pad
take_pad n d [] h = refl
take_pad zero d (x ∷ xs) h = absurd (not-suc-le-zero h)
take_pad {A} (suc n) d (x ∷ xs) h = ap (λ (r : List A). x ∷ r) (take_pad n d xs (le_of_suc-le-suc h))

-- one member more
pub pad_set : {A : Type 0} (n : ℕ) (d : A) (xs : List A) (x : A) (i : ℕ) → length xs ≡ i → i < n
    → set (pad n d xs) i x ≡ pad n d (xs ++ (x ∷ []))
unfolding pad
pad_set zero d xs x i e h = absurd (omega arith)
pad_set (suc n) d [] x zero e h = refl
pad_set (suc n) d [] x (suc i) e h = absurd (let z : ◌≡◌ {A = ℕ} 0 (suc i) = e in omega arith)
pad_set (suc n) d (y ∷ xs) x zero e h = absurd (let z : ◌≡◌ {A = ℕ} (suc (length xs)) 0 = e in omega arith)
pad_set (suc n) d (y ∷ xs) x (suc i) e h = ap (λ (r : List _). y ∷ r) (pad_set n d xs x i (omega arith) (omega arith))

module _ {A : Type 0} where
  pub length_pad : (n : ℕ) (d : A) (xs : List A) → length (pad n d xs) ≡ n
  unfolding pad
  length_pad zero d xs = refl
  length_pad (suc n) d [] = ap suc (length_pad n d [])
  length_pad (suc n) d (x ∷ xs) = ap suc (length_pad n d xs)

  -- the list, and the slots after it
  pub pad_rest : (n : ℕ) (d : A) (xs : List A) → length xs ≤ n → xs ++ drop (length xs) (pad n d []) ≡ pad n d xs
  unfolding pad
  pad_rest zero d [] h = refl
  pad_rest zero d (x ∷ xs) h = absurd (not-suc-le-zero h)
  pad_rest (suc n) d [] h = refl
  pad_rest (suc n) d (x ∷ xs) h = ap (λ (r : List A). x ∷ r) (pad_rest n d xs (le_of_suc-le-suc h))

  pub pad_nil : (n : ℕ) (d : A) → pad n d [] ≡ replicate n d
  unfolding pad
  pad_nil zero d = refl
  pad_nil (suc n) d = ap (λ (r : List A). d ∷ r) (pad_nil n d)

  pub get_d_pad : (n : ℕ) (d : A) (xs : List A) (i : ℕ) → i < n → get_or (pad n d xs) i d ≡ get_or xs i d
  unfolding pad
  get_d_pad zero d xs i h = absurd (not-suc-le-zero h)
  get_d_pad (suc n) d [] zero h = refl
  get_d_pad (suc n) d [] (suc i) h = get_d_pad n d [] i (le_of_suc-le-suc h)
  get_d_pad (suc n) d (x ∷ xs) zero h = refl
  get_d_pad (suc n) d (x ∷ xs) (suc i) h = get_d_pad n d xs i (le_of_suc-le-suc h)

  -- what was padded is had again
  pub pad_pad : (n : ℕ) (d : A) (xs : List A) → length xs ≤ n → pad (length xs) d (pad n d xs) ≡ xs
  unfolding pad
  pad_pad n d [] h = refl
  pad_pad zero d (x ∷ xs) h = absurd (not-suc-le-zero h)
  pad_pad (suc n) d (x ∷ xs) h = ap (λ (r : List A). x ∷ r) (pad_pad n d xs (le_of_suc-le-suc h))

  -- ---- a front that is padded by itself

  pub pad_suc : (i : ℕ) (d : A) (xs : List A) → length xs ≤ i → pad i d xs ++ d ∷ [] ≡ pad (suc i) d xs
  unfolding pad
  pad_suc zero d [] h = refl
  pad_suc zero d (x ∷ xs) h = absurd (not-suc-le-zero h)
  pad_suc (suc i) d [] h = ap (λ (r : List A). d ∷ r) (pad_suc i d [] (omega arith))
  pad_suc (suc i) d (x ∷ xs) h = ap (λ (r : List A). x ∷ r) (pad_suc i d xs (le_of_suc-le-suc h))

  pub pad_over : (n cap : ℕ) (d : A) (xs ys : List A) → length xs ≤ n → length ys ≡ n → n ≤ cap → pad n d xs
      ++ drop n (pad cap d ys) ≡ pad cap d xs
  unfolding pad
  pad_over zero cap d [] [] h e k = refl
  pad_over zero cap d [] (y ∷ ys) h e k = absurd (suc-ne-zero (length ys) e)
  pad_over zero cap d (x ∷ xs) ys h e k = absurd (not-suc-le-zero h)
  pad_over (suc n) zero d xs ys h e k = absurd (not-suc-le-zero k)
  pad_over (suc n) (suc cap) d xs [] h e k = absurd (suc-ne-zero n (sym e))
  pad_over (suc n) (suc cap) d [] (y ∷ ys) h e k = ap (λ (r : List A). d ∷ r)
      (pad_over n cap d [] ys (omega arith) (suc_inj e) (le_of_suc-le-suc k))
  pad_over (suc n) (suc cap) d (x ∷ xs) (y ∷ ys) h e k =
      ap (λ (r : List A). x ∷ r) (pad_over n cap d xs ys (le_of_suc-le-suc h) (suc_inj e) (le_of_suc-le-suc k))

  -- the first members stand at the front as they are
  pub pad_front : {B : Type 0} (f : B → A) (i cap : ℕ) (d : A) (xs : List B) → i ≤ length xs → length xs ≤ cap
      → pad cap d (map f xs) ≡ pad i d (map f (take i xs)) ++ drop i (pad cap d (map f xs))
  unfolding pad
  pad_front f zero cap d xs h k = refl
  pad_front f (suc i) cap d [] h k = absurd (not-suc-le-zero h)
  pad_front f (suc i) zero d (x ∷ xs) h k = absurd (not-suc-le-zero k)
  pad_front f (suc i) (suc cap) d (x ∷ xs) h k =
      ap (λ (r : List A). f x ∷ r) (pad_front f i cap d xs (le_of_suc-le-suc h) (le_of_suc-le-suc k))
