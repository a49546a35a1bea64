-- Results: what `replace` keeps and brings, and when two sets of results may change places.
-- For the worlds (Worlds), the steps of table and the exchanges of plan. Assumes nothing.
use mathlib.Core.Path.{◌≡◌, refl, sym, ap, ◌∙◌}
use mathlib.Core.Logic.{◌⊎◌, inl, inr, ⊎_elim}
use mathlib.Core.Bool.{Bool, true, false, not, ◌&&◌, ◌||◌, and-eq-true_iff, and-true, and-false, or-true, or-false, true≢false}
use Prim.Native.Nat.{ℕ}
use lib.Bits.{bit_and}
use borrow.Author.Tests.{not-true}
use Rattle.sheet.specs.declared.Literals.{Literals}
use Rattle.sheet.specs.Literals.{has, mem, within, clash, consistent, join, replace, below, names}
use Rattle.sheet.proofs.laws.literals.MaskBits.{has_or, disjoint_of}
use Rattle.sheet.proofs.laws.base.Bools.{iff_eq, or_cases, or_left, or_right, not_twice}
use Rattle.sheet.proofs.laws.literals.LiteralSets.{mem_join, mem_replace, set_ext, within_of, of_within, apart_of, consistent_of, of_consistent, below_of, of_below}

-- the results come from a or from r
pub replace_cases : (a r : Literals) (s : Bool) (p : ℕ) → mem (replace a r) s p ≡ true
    → ((mem a s p ≡ true) × (mem r (not s) p ≡ false)) ⊎ (mem r s p ≡ true)
replace_cases a r s p e = go (or_cases (mem a s p && not (mem r (not s) p)) (mem r s p) (sym (mem_replace a r s p) ∙ e))
  where
    go : ((mem a s p && not (mem r (not s) p)) ≡ true) ⊎ (mem r s p ≡ true)
        → ((mem a s p ≡ true) × (mem r (not s) p ≡ false)) ⊎ (mem r s p ≡ true)
    go (inl k) = inl (((and-eq-true_iff _ _).0 k).0, not-true _ ((and-eq-true_iff (mem a s p) _).0 k).1)
    go (inr k) = inr k

pub replace_kept : (a r : Literals) (s : Bool) (p : ℕ) → mem a s p ≡ true → mem r (not s) p ≡ false → mem (replace a r) s p ≡ true
replace_kept a r s p e f = mem_replace a r s p ∙ or_left (mem a s p && not (mem r (not s) p)) _ (rw (e, f))

pub within_replace : (a r : Literals) → within r (replace a r) ≡ true
within_replace a r = of_within _ _ (λ s p e. mem_replace a r s p ∙ or_right (mem a s p && not (mem r (not s) p)) _ e)

pub below_replace : (n : ℕ) (a r : Literals) → below n a ≡ true → below n r ≡ true → below n (replace a r) ≡ true
below_replace n a r e f =
    of_below n _ (λ s p m. ⊎_elim (λ k. below_of n a e s p k.0) (below_of n r f s p) (replace_cases a r s p m))

pub replace_mono : (a b r : Literals) → within a b ≡ true → within (replace a r) (replace b r) ≡ true
replace_mono a b r w =
    of_within _ _ (λ s p m.
    ⊎_elim (λ k. replace_kept b r s p (within_of a b w s p k.0) k.1) (within_of _ _ (within_replace b r) s p)
    (replace_cases a r s p m))

pub consistent_replace : (a r : Literals) → consistent a ≡ true → consistent r ≡ true → consistent (replace a r) ≡ true
consistent_replace a r e f =
    of_consistent _ (λ s p m. none s p (replace_cases a r s p m) (mem (replace a r) (not s) p) refl)
  where
    clear : (s : Bool) (p : ℕ) → ((mem a s p ≡ true) × (mem r (not s) p ≡ false)) ⊎ (mem r s p ≡ true)
        → ((mem a (not s) p ≡ true) × (mem r (not (not s)) p ≡ false)) ⊎ (mem r (not s) p ≡ true) → ⊥
    clear s p (inl k) (inl m) = true≢false (sym m.0 ∙ consistent_of a e s p k.0)
    clear s p (inl k) (inr m) = true≢false (sym m ∙ k.1)
    clear s p (inr k) (inl m) = true≢false (sym k ∙ ap (λ (t : Bool). mem r t p) (sym (not_twice s)) ∙ m.1)
    clear s p (inr k) (inr m) = true≢false (sym m ∙ consistent_of r f s p k)

    none : (s : Bool) (p : ℕ) → ((mem a s p ≡ true) × (mem r (not s) p ≡ false)) ⊎ (mem r s p ≡ true)
        → (t : Bool) → mem (replace a r) (not s) p ≡ t → mem (replace a r) (not s) p ≡ false
    none s p k true m = absurd (clear s p k (replace_cases a r (not s) p m))
    none s p k false m = m

-- ---- the propositions that results name

pub has_names : (a : Literals) (p : ℕ) → has (names a) p ≡ (mem a true p || mem a false p)
unfolding names mem
has_names a p = has_or a.trues a.falses p

pub named : (a : Literals) (s : Bool) (p : ℕ) → mem a s p ≡ true → has (names a) p ≡ true
named a true p e = has_names a p ∙ or_left _ _ e
named a false p e = has_names a p ∙ or_right (mem a true p) _ e

-- a and b name no proposition in common
pub apart_names : (a b : Literals) → bit_and (names a) (names b) ≡ 0 → (s t : Bool) (p : ℕ) → mem a s p ≡ true → mem b t p ≡ false
apart_names a b h s t p e = go (mem b t p) refl
  where
    go : (x : Bool) → mem b t p ≡ x → mem b t p ≡ false
    go true f = absurd (true≢false (sym (named b t p f) ∙ disjoint_of (names a) (names b) h p (named a s p e)))
    go false f = f

-- where r does not name p, a stays
pub replace_other : (a r : Literals) (s : Bool) (p : ℕ) → mem r s p ≡ false → mem r (not s) p ≡ false → mem (replace a r) s p ≡ mem a s p
replace_other a r s p e f = mem_replace a r s p ∙ rw (e, f) (simp (and-true, or-false))

module _ (a c r : Literals) (h : bit_and (names c) (names r) ≡ 0) where
  same : (s t : Bool) (p : ℕ) → mem c s p ≡ true → mem (replace a r) t p ≡ mem a t p
  same s t p e = replace_other a r t p (apart_names c r h s t p e) (apart_names c r h s (not t) p e)

  -- results leave a condition alone that names none of their propositions
  pub within_other : within c (replace a r) ≡ within c a
  within_other =
      iff_eq _ _ (λ w. of_within c a (λ s p e. sym (same s s p e) ∙ within_of c _ w s p e))
      (λ w. of_within c _ (λ s p e. same s s p e ∙ within_of c a w s p e))

-- ---- two sets of results, one after the other

merge : (x r r' q q' : Bool) → (r ≡ true → q' ≡ false) → ((x && not (r' || q')) || (r || q)) ≡ ((((x && not r') || r) && not q') || q)
merge x true r' q q' h = rw (h refl) (simp or-true)
merge x false true q q' h = simp and-false
merge x false false q q' h = simp (and-true, or-false)

-- results that do not clash may come together or one after the other
pub replace_join : (a r q : Literals) → clash r q ≡ false → replace a (join r q) ≡ replace (replace a r) q
replace_join a r q h =
    set_ext _ _ (λ s p.
    simp (mem_replace, mem_join)
    (merge (mem a s p) (mem r s p) (mem r (not s) p) (mem q s p) (mem q (not s) p) (apart_of r q h s p)))
