-- The literals of one set that another lacks, and a set without its first literal. For `starts::choose` (`starts/FalsifiedAlternatives`)
-- and `steps::split` (`steps/PieceWalk`, `steps/CarriedResults`). Assumes nothing.
use mathlib.Core.Path.{◌≡◌, refl, sym, ap, ◌∙◌}
use mathlib.Core.Bool.{Bool, true, false, not, cond, ◌&&◌}
use mathlib.Core.List.{List, ◌∷◌}
use Prim.Native.Nat.{ℕ, zero, suc, ◌+◌, ◌/◌, ◌<◌}
use native.Mathlib.Omega.{arith}
use Rattle.sheet.specs.declared.Literals.{Literals}
use Rattle.sheet.specs.Literals.{mem, within, sign, literal, contains, members, members_from}
use Rattle.sheet.specs.inner.Masks.{byte, next, minus}
use Rattle.sheet.specs.Lists.{add_if, keep}
use Rattle.sheet.proofs.laws.literals.MaskBits.{has_minus}
use Rattle.sheet.proofs.laws.base.Bools.{T_true}
use Rattle.sheet.proofs.laws.literals.LiteralSets.{single_is, within_refl}
use Rattle.sheet.proofs.laws.literals.LiteralBytes.{byte_of, within_literal, down, members_end, members_here, members_step, members_cons}
use Rattle.table.specs.Step.{missing}

module _ (c d : Literals) where
  mem_lacks : (s : Bool) (p : ℕ) → mem (minus c d) s p ≡ (mem c s p && not (mem d s p))
  unfolding mem minus
  mem_lacks true p = has_minus c.trues d.trues p
  mem_lacks false p = has_minus c.falses d.falses p

  pub contains_lacks : (l : ℕ) → contains (minus c d) l ≡ (contains c l && not (contains d l))
  unfolding contains
  contains_lacks l = mem_lacks (sign l) (l / 2)

  lacks_from : (k l : ℕ) → members_from k (minus c d) l ≡ keep (λ j. not (contains d j)) (members_from k c l)
  unfolding members_from
  lacks_from zero l = refl
  lacks_from (suc k) l =
      ap (λ (x : Bool). cond x (l ∷ members_from k (minus c d) (suc l)) (members_from k (minus c d) (suc l))) (contains_lacks l)
      ∙ ap (λ (x : List ℕ). cond (contains c l && not (contains d l)) (l ∷ x) x) (lacks_from k (suc l))
      ∙ one (contains c l) (members_from k c (suc l))
    where
      add : (b : Bool) (xs : List ℕ) → cond b (l ∷ xs) xs ≡ add_if b l xs
      add true xs = refl
      add false xs = refl

      one : (a : Bool) (ys : List ℕ)
          → cond (a && not (contains d l)) (l ∷ keep (λ j. not (contains d j)) ys) (keep (λ j. not (contains d j)) ys)
          ≡ keep (λ j. not (contains d j)) (cond a (l ∷ ys) ys)
      one true ys = add (not (contains d l)) (keep (λ j. not (contains d j)) ys)
      one false ys = refl

  pub members_lacks : members (minus c d) 0 ≡ missing c d
  unfolding members missing
  members_lacks = lacks_from 64 0

-- ---- the first literal taken away
-- a literal is the only one of its set
alone : (l m : ℕ) → contains (literal l) m ≡ true → m ≡ l
unfolding contains literal
alone l m e = let w = single_is (sign l) (l / 2) (sign m) (m / 2) e in sym (byte_of m) ∙ (λ k. byte (w.0 k) (w.1 k)) ∙ byte_of l

module _ (a : Literals) (l : ℕ) where
  other : (m : ℕ) → l < m → not (contains (literal l) m) ≡ true
  other m h = go (contains (literal l) m) refl
    where
      go : (b : Bool) → contains (literal l) m ≡ b → not (contains (literal l) m) ≡ true
      go true e = absurd (omega (arith, alone l m e))
      go false e = ap not e

  -- those after it are kept
  after : (m : ℕ) → l < m → keep (λ j. not (contains (literal l) j)) (members a m) ≡ members a m
  after = down P (λ m h k. rw (members_end a m h) refl) (λ m h r k. pick m h (r (omega arith)) k (contains a m) refl)
    where
      P : ℕ → Type 0
      P m = l < m → keep (λ j. not (contains (literal l) j)) (members a m) ≡ members a m

      pick : (m : ℕ) → m < 64 → keep (λ j. not (contains (literal l) j)) (members a (m + 1)) ≡ members a (m + 1) → l < m → (b : Bool)
          → contains a m ≡ b
          → keep (λ j. not (contains (literal l) j)) (members a m) ≡ members a m
      pick m h r k true e =
          rw (members_here a m h e)
          (ap (λ (b : Bool). add_if b m (keep (λ j. not (contains (literal l) j)) (members a (m + 1)))) (other m k)
          ∙ ap (λ (x : List ℕ). m ∷ x) r)
      pick m h r k false e = rw (members_step a m h e) r

  pub members_first : l ≡ next a 0 → l < 64 → members a 0 ≡ l ∷ members (minus a (literal l)) 0
  unfolding missing
  members_first e h =
      let all : members a 0 ≡ l ∷ members a (l + 1) = members_cons a 0 (omega (arith, e, h))
      ∙ ap (λ (x : ℕ). x ∷ members a (x + 1)) (sym e) in
      let one : not (contains (literal l) l) ≡ false = ap not
      (sym (within_literal l (literal l)) ∙ T_true (within (literal l) (literal l)) (within_refl (literal l))) in
      all
      ∙ ap (λ (x : List ℕ). l ∷ x)
      (sym
      (members_lacks a (literal l)
      ∙ ap (keep (λ (j : ℕ). not (contains (literal l) j))) all
      ∙ ap (λ (b : Bool). add_if b l (keep (λ j. not (contains (literal l) j)) (members a (l + 1)))) one
      ∙ after (l + 1) (omega arith)))
