-- The alternatives of a clause but one: left out of the list, and put into a list of their own one after the other.
-- For `starts::lay_others` and `starts::widen_oneof`. Assumes nothing.
use Prim.Native.Nat.{ℕ, zero, suc, ◌+◌, ◌≤◌, ◌<◌}
use mathlib.Core.Path.{◌≡◌, refl, sym, ap, ◌∙◌}
use mathlib.Core.Bool.{Bool, cond}
use mathlib.Core.List.{List, [], ◌∷◌, ◌++◌, append_assoc, append-nil}
use native.Mathlib.Omega.{arith}
use lib.ListN.{length, get_or, drop, take, length-append}
use Rattle.std.proofs.lemmas.List.{drop_more, drop_all}
use borrow.Author.Tests.{eq-eqb, ne_eqb}
use Rattle.sheet.specs.declared.Literals.{Literals}
use Rattle.sheet.specs.Literals.{no_literal}
use Rattle.table.specs.inner.Starts.{others}

-- ---- left out of the list

beyond : (i at : ℕ) (xs : List Literals) → i < at → others i at xs ≡ xs
beyond i at [] h = refl
beyond i at (x ∷ xs) h =
    ap (λ (b : Bool). cond b (others i (at + 1) xs) (x ∷ others i (at + 1) xs)) (ne_eqb at i (omega arith))
    ∙ ap (λ (r : List Literals). x ∷ r) (beyond i (at + 1) xs (omega arith))

module _ (i at : ℕ) (x : Literals) (xs gs : List Literals) (q : xs ≡ x ∷ gs) where
  pub others_skip : at ≡ i → others i at xs ≡ others i (at + 1) gs
  others_skip e = ap (others i at) q ∙ ap (λ (b : Bool). cond b (others i (at + 1) gs) (x ∷ others i (at + 1) gs)) (eq-eqb at i e)

  pub others_keep : (at ≡ i → ⊥) → others i at xs ≡ x ∷ others i (at + 1) gs
  others_keep e = ap (others i at) q ∙ ap (λ (b : Bool). cond b (others i (at + 1) gs) (x ∷ others i (at + 1) gs)) (ne_eqb at i e)

-- place at + j left out
pub without : (at j : ℕ) (xs : List Literals) → others (at + j) at xs ≡ take j xs ++ drop (suc j) xs
without at zero [] = refl
without at (suc j) [] = refl
without at zero (x ∷ xs) = others_skip (at + 0) at x (x ∷ xs) xs refl (omega arith) ∙ beyond (at + 0) (at + 1) xs (omega arith)
without at (suc j) (x ∷ xs) =
    let e : at + suc j ≡ at + 1 + j = omega arith in
    others_keep (at + suc j) at x (x ∷ xs) xs refl (λ z. omega arith)
    ∙ ap (λ (k : ℕ). x ∷ others k (at + 1) xs) e
    ∙ ap (λ (r : List Literals). x ∷ r) (without (at + 1) j xs)

-- ---- the alternatives but one, in a list of their own: those below j are there, and those from j on are still to come
pub record Laying (xs : List Literals) (i j : ℕ) (rest : List Literals) : Type 0 where
  pub few : length rest ≤ j
  pub is : rest ++ others i j (drop j xs) ≡ others i 0 xs

module _ (xs : List Literals) {i j n : ℕ} {rest : List Literals} (l : n ≡ length xs) (g : Laying xs i j rest) where
  here : j < n → drop j xs ≡ get_or xs j no_literal ∷ drop (j + 1) xs
  here h = drop_more xs j no_literal (omega arith)

  pub laying_one : {a : Literals} → j < n → a ≡ get_or xs j no_literal → (j ≡ i → ⊥) → Laying xs i (j + 1) (rest ++ a ∷ [])
  laying_one {a} h e ne = record {
    few = omega (arith, g.few, length-append rest (a ∷ []));
    is = append_assoc rest (a ∷ []) (others i (j + 1) (drop (j + 1) xs))
        ∙ ap (λ (y : List Literals). rest ++ y)
        (ap (λ (x : Literals). x ∷ others i (j + 1) (drop (j + 1) xs)) e ∙ sym (others_keep i j _ (drop j xs) _ (here h) ne))
        ∙ g.is;
  }

  pub laying_none : j < n → j ≡ i → Laying xs i (j + 1) rest
  laying_none h e = record {
    few = omega (arith, g.few);
    is = ap (λ (y : List Literals). rest ++ y) (sym (others_skip i j _ (drop j xs) _ (here h) e)) ∙ g.is;
  }

  pub laying_end : n ≤ j → rest ≡ others i 0 xs
  laying_end h =
      let e : drop j xs ≡ [] = drop_all j xs (omega arith) in
      sym (append-nil rest) ∙ ap (λ (y : List Literals). rest ++ others i j y) (sym e) ∙ g.is
