-- Loops over k items, read one after the other: what is left after i of them.
-- For the methods of src/reader.rt that read a list. Assumes nothing.
use mathlib.Core.Path.{◌≡◌, refl, sym, ap, ◌∙◌}
use mathlib.Core.List.{List, [], ◌∷◌, ◌++◌, append_assoc, append-nil}
use Prim.Native.Nat.{ℕ, suc, ◌+◌, ◌-◌, ◌≤◌, ◌<◌}
use native.Mathlib.Omega.{arith}
use native.Mathlib.Nat.{sub-zero}
use Rattle.std.specs.Prelude.{Result, Ok, Err}
use Rattle.std.specs.Result.{IsErrAnd}
use Rattle.sheet.specs.declared.Fault.{Fault}
use Rattle.sheet.specs.declared.reader.Reader.{Reader}
use Rattle.sheet.specs.Form.{Form, done, byte, ◌>>=◌, times}
use Rattle.sheet.specs.inner.Reads.{ReadsAs}
use Rattle.sheet.proofs.laws.reader.ReadParts.{Left, left_as, left_after, left_stop, left_end}

-- ---- forms one after the other
pub bind_assoc : {A B C : Type 0} (x : Form A) (f : A → Form B) (g : B → Form C) → (x >>= f) >>= g ≡ x >>= (λ a. f a >>= g)
unfolding ◌>>=◌
bind_assoc (done a) f g = refl
bind_assoc (byte rule next) f g = λ z. byte rule (λ b. bind_assoc (next b) f g z)

bind_done : {A : Type 0} (x : Form A) → x ≡ x >>= (λ a. done a)
unfolding ◌>>=◌
bind_done (done a) = refl
bind_done (byte rule next) = λ z. byte rule (λ b. bind_done (next b) z)

-- an item, then the others of its list
pub listed : {A B : Type 0} (x : Form A) (others : A → Form (List A)) (g : List A → Form B)
    → (x >>= (λ b. others b >>= (λ bs. done (b ∷ bs)))) >>= g ≡ x >>= (λ b. others b >>= (λ bs. g (b ∷ bs)))
unfolding ◌>>=◌
listed x others g =
    bind_assoc x _ g ∙ (λ z. x >>= (λ b. bind_assoc (others b) (λ bs. done (b ∷ bs)) g z))

-- ---- a loop over k items
-- j items, put after xs
abbrev pub onto : {A : Type 0} → Form A → ℕ → List A → Form (List A)
onto one j xs = times j one >>= (λ ys. done (xs ++ ys))

onto_more : {A : Type 0} (one : Form A) (j : ℕ) (xs : List A) → onto one (suc j) xs ≡ one >>= (λ x. onto one j (xs ++ (x ∷ [])))
unfolding times
onto_more one j xs =
    listed one (λ _. times j one) (λ ys. done (xs ++ ys))
    ∙ (λ z. one >>= (λ x. times j one >>= (λ ys. done (sym (append_assoc xs (x ∷ []) ys) z))))

onto_none : {A : Type 0} (one : Form A) (xs : List A) → onto one 0 xs ≡ done xs
unfolding times ◌>>=◌
onto_none one xs = ap done (append-nil xs)

-- i of k items are read, and are xs
pub record Turns {A : Type 0} (whole : Form (List A)) (before : Reader) (one : Form A) (k i : ℕ) (xs : List A) (here : Reader) : Type 0
  where
    pub left : Left whole before (onto one (k - i) xs) here

module _ {A : Type 0} {whole : Form (List A)} {before : Reader} {one : Form A} {k : ℕ} where
  pub turns_begin : {xs : List A} {here : Reader} → Left whole before (times k one) here → xs ≡ [] → Turns whole before one k 0 xs here
  turns_begin t e = record { left = rw (e, sub-zero) (left_as t (bind_done (times k one))) }

  module _ {i : ℕ} {xs : List A} {here : Reader} (t : Turns whole before one k i xs here) where
    pub turns_end : {B : Type 0} {says : B → List A} {v : B} → k ≤ i → xs ≡ says v → ReadsAs says whole before (Ok v) here
    turns_end h e =
        let j : k - i ≡ 0 = omega arith in
        left_end (left_as t.left (ap (λ (n : ℕ). onto one n xs) j ∙ onto_none one xs)) e

    module _ (h : i < k) where
      one_more : Left whole before (one >>= (λ x. onto one (k - (i + 1)) (xs ++ (x ∷ [])))) here
      one_more =
          let j : k - i ≡ suc (k - (i + 1)) = omega arith in
          left_as t.left (ap (λ (n : ℕ). onto one n xs) j ∙ onto_more one (k - (i + 1)) xs)

      module _ {C : Type 0} {says : C → A} {r : Result C Fault} {after : Reader} (g : ReadsAs says one here r after) where
        pub turns_stop : {D : Type 0} {all : D → List A} {out : Result D Fault} {e : Fault} → r ≡ Err e → IsErrAnd out (λ y. y ≡ e)
            → ReadsAs all whole before out after
        turns_stop e k = left_stop _ one_more g e k

        pub turns_more : {v : C} {ys : List A} → r ≡ Ok v → ys ≡ xs ++ (says v ∷ []) → Turns whole before one k (i + 1) ys after
        turns_more e f = record { left = rw f (left_after _ one_more g e) }
