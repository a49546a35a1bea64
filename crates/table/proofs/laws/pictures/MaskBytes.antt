-- Masks written into a buffer, one after the other. For `picture_bytes::write_mask` and `picture_bytes::write_picture`. Assumes nothing.
use mathlib.Core.Path.{◌≡◌, refl, sym, ap, ap₂, ◌∙◌}
use mathlib.Core.List.{List, [], ◌∷◌, ◌++◌, append_assoc}
use Prim.Native.Nat.{ℕ, ◌+◌, ◌*◌, ◌/◌, ◌%◌, ◌≤◌, ◌<◌}
use native.Mathlib.Numerals.{add-one}
use native.Mathlib.Omega.{arith}
use lib.ListN.{length, get_or, take, drop, length-append, take-append-drop}
use lib.Seq.{take-suc, take_at, drop-drop, drop-append-add, take_all, length-take-le}
use borrow.Rule.Slice.PartMut.{put_mid}
use Rattle.std.proofs.lemmas.Slice.{take-put_mid, drop-put_mid}
use Rattle.sheet.specs.declared.Literals.{Literals}
use Rattle.sheet.specs.Literals.{no_literal}
use Rattle.table.specs.Picture.{mask_bytes, clause_bytes, picture_bytes}

pub clause_bytes_length : (s : List Literals) → length (clause_bytes s) ≡ 8 * length s
unfolding clause_bytes mask_bytes
clause_bytes_length [] = refl
clause_bytes_length (c ∷ s) = omega (arith, clause_bytes_length s)

-- the four bytes of a mask, copied to their place
pub mask_put : (b ys : List ℕ) (at k m : ℕ) → at + 4 ≤ length b → k ≡ 4
    → ys ≡ m / 16777216 % 256 ∷ m / 65536 % 256 ∷ m / 256 % 256 ∷ m % 256 ∷ []
    → put_mid at k b ys ≡ take at b ++ mask_bytes m (drop (at + 4) b)
unfolding mask_bytes
mask_put b ys at k m h four e =
    sym (take-append-drop (at + 4) (put_mid at k b ys))
    ∙ ap₂ ◌++◌ (take-put_mid at k b ys (at + 4) (omega (arith, ap length e)) (omega arith))
    (drop-put_mid at k b ys (at + 4) (omega arith) (omega arith) (omega (arith, ap length e)))
    ∙ append_assoc (take at b) ys (drop (at + 4) b)
    ∙ ap (λ (x : List ℕ). take at b ++ (x ++ drop (at + 4) b)) e

mask_apart : (m : ℕ) (r : List ℕ) → mask_bytes m r ≡ mask_bytes m [] ++ r
unfolding mask_bytes
mask_apart m r = refl

mask_length : (m : ℕ) (r : List ℕ) → length (mask_bytes m r) ≡ 4 + length r
unfolding mask_bytes
mask_length m r = omega arith

-- a mask after the bytes p
masked : (p q : List ℕ) (at m : ℕ) → length p ≡ at → take at (p ++ q) ++ mask_bytes m (drop (at + 4) (p ++ q)) ≡ p ++ mask_bytes m
    (drop 4 q)
masked p q at m e =
    ap₂ (λ (x y : List ℕ). x ++ mask_bytes m y) (take_at p q at e) (ap (λ (k : ℕ). drop (k + 4) (p ++ q)) (sym e) ∙ drop-append-add p q 4)

-- two masks after the bytes p
two_masked : (p b buf one two : List ℕ) (at x y : ℕ) → length p ≡ at → buf ≡ p ++ drop at b → one ≡ take at buf
    ++ mask_bytes x (drop (at + 4) buf)
    → two ≡ take (at + 4) one ++ mask_bytes y (drop ((at + 4) + 4) one) → two ≡ p ++ mask_bytes x (mask_bytes y (drop (at + 8) b))
two_masked p b buf one two at x y e is first second =
    let a : one ≡ p ++ mask_bytes x (drop 4 (drop at b)) = first ∙ ap (λ (z : List ℕ). take at z ++ mask_bytes x (drop (at + 4) z)) is
    ∙ masked p (drop at b) at x e in
    let c : one ≡ (p ++ mask_bytes x []) ++ drop 4 (drop at b) = a ∙ ap (λ (z : List ℕ). p ++ z) (mask_apart x (drop 4 (drop at b)))
    ∙ sym (append_assoc p (mask_bytes x []) (drop 4 (drop at b))) in
    let l : length (p ++ mask_bytes x []) ≡ at + 4 = omega (arith, length-append p (mask_bytes x []), mask_length x []) in
    let k : at + (4 + 4) ≡ at + 8 = refl in
    second
    ∙ ap (λ (z : List ℕ). take (at + 4) z ++ mask_bytes y (drop ((at + 4) + 4) z)) c
    ∙ masked (p ++ mask_bytes x []) (drop 4 (drop at b)) (at + 4) y l
    ∙ append_assoc p (mask_bytes x []) (mask_bytes y (drop 4 (drop 4 (drop at b))))
    ∙ ap (λ (z : List ℕ). p ++ z) (sym (mask_apart x (mask_bytes y (drop 4 (drop 4 (drop at b))))))
    ∙ ap (λ (z : List ℕ). p ++ mask_bytes x (mask_bytes y z)) (drop-drop 4 4 (drop at b) ∙ drop-drop 8 at b)

clause_bytes_append : (s r : List Literals) → clause_bytes (s ++ r) ≡ clause_bytes s ++ clause_bytes r
unfolding clause_bytes mask_bytes
clause_bytes_append [] r = refl
clause_bytes_append (c ∷ s) r = ap (λ (z : List ℕ). mask_bytes c.trues (mask_bytes c.falses z)) (clause_bytes_append s r)

-- the count in two bytes
abbrev count_bytes : ℕ → List ℕ
count_bytes n = n / 256 % 256 ∷ n % 256 ∷ []

-- after i clauses: the two bytes of the count, the clauses, and the rest of the buffer b
pub record Wrote (es : List Literals) (b : List ℕ) (i : ℕ) (buf : List ℕ) : Type 0 where
  pub is : buf ≡ (count_bytes (length es) ++ clause_bytes (take i es)) ++ drop (2 + 8 * i) b

module _ (es : List Literals) (b : List ℕ) where
  pub wrote_start : {n : ℕ} {ys : List ℕ} → n ≡ length es → ys ≡ count_bytes n → Wrote es b 0 (ys ++ drop 2 b)
  unfolding clause_bytes
  wrote_start q e = record { is = ap (λ (x : List ℕ). x ++ drop 2 b) (e ∙ ap count_bytes q) }

  pub wrote_step : {i : ℕ} {buf one two : List ℕ} {c : Literals} → Wrote es b i buf → i < length es → c ≡ get_or es i no_literal
      → one ≡ take (2 + 8 * i) buf ++ mask_bytes c.trues (drop ((2 + 8 * i) + 4) buf)
      → two ≡ take ((2 + 8 * i) + 4) one ++ mask_bytes c.falses (drop (((2 + 8 * i) + 4) + 4) one)
      → Wrote es b (i + 1) two
  unfolding clause_bytes
  wrote_step {i} {buf} {one} {two} {c} g lt q first second =
      let done = count_bytes (length es) ++ clause_bytes (take i es) in
      let long : length done ≡ 2 + 8 * i = omega (arith, clause_bytes_length (take i es), length-take-le i es (omega arith)) in
      let more : clause_bytes (take (i + 1) es) ≡ clause_bytes (take i es) ++ mask_bytes c.trues (mask_bytes c.falses []) =
      ap (λ (k : ℕ). clause_bytes (take k es)) (add-one i) ∙ ap clause_bytes (take-suc es i no_literal lt)
      ∙ clause_bytes_append (take i es) (get_or es i no_literal ∷ [])
      ∙ ap (λ (x : Literals). clause_bytes (take i es) ++ mask_bytes x.trues (mask_bytes x.falses [])) (sym q) in
      let at : (2 + 8 * i) + 8 ≡ 2 + 8 * (i + 1) = omega arith in
      record {
        is =
            two_masked done b buf one two (2 + 8 * i) c.trues c.falses long g.is first second
            ∙ ap (λ (k : ℕ). done ++ mask_bytes c.trues (mask_bytes c.falses (drop k b))) at
            ∙ ap (λ (x : List ℕ). done ++ x) (both c.trues c.falses (drop (2 + 8 * (i + 1)) b))
            ∙ sym (append_assoc done (mask_bytes c.trues (mask_bytes c.falses [])) (drop (2 + 8 * (i + 1)) b))
            ∙ ap (λ (x : List ℕ). x ++ drop (2 + 8 * (i + 1)) b)
            (append_assoc (count_bytes (length es)) (clause_bytes (take i es)) (mask_bytes c.trues (mask_bytes c.falses []))
            ∙ ap (λ (x : List ℕ). count_bytes (length es) ++ x) (sym more));
      }
    where
      both : (x y : ℕ) (r : List ℕ) → mask_bytes x (mask_bytes y r) ≡ mask_bytes x (mask_bytes y []) ++ r
      both x y r = mask_apart x (mask_bytes y r) ∙ ap (λ (z : List ℕ). mask_bytes x [] ++ z) (mask_apart y r)
          ∙ sym (append_assoc (mask_bytes x []) (mask_bytes y []) r)
          ∙ ap (λ (z : List ℕ). z ++ r) (sym (mask_apart x (mask_bytes y [])))

  pub wrote_end : {i : ℕ} {buf : List ℕ} → i ≡ length es → Wrote es b i buf → buf ≡ picture_bytes es ++ drop (2 + 8 * length es) b
  unfolding picture_bytes
  wrote_end {i} q g =
      g.is
      ∙ ap₂ (λ (x : List Literals) (k : ℕ). (count_bytes (length es) ++ clause_bytes x) ++ drop (2 + 8 * k) b)
      (take_all i es (omega arith)) q
