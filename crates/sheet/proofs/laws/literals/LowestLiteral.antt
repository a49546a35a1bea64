-- The lowest literal of a set from a place on, by the lowest set bit of a mask. For `lowest` of src/masks.rt. Assumes nothing.
use mathlib.Core.Path.{◌≡◌, refl, sym, ap, ◌∙◌, subst}
use mathlib.Core.Bool.{Bool, true, false, ◌||◌, true≢false}
use mathlib.Core.Logic.{⊎_elim}
use Prim.Native.Nat.{ℕ, zero, suc, ◌+◌, ◌-◌, ◌*◌, ◌/◌, ◌%◌, ◌^◌, ◌≤◌, ◌<◌}
use native.Mathlib.Nat.{div-div-eq-div-mul, div-le_self, lt_of_le_of_lt}
use lib.Pow.{pow-add}
use native.Mathlib.Omega.{arith}
use lib.Dec.{eqb, ltb}
use lib.Bits.{bit_or, or_lt}
use lib.Count.{count_trailing_zeros, under}
use borrow.Author.Tests.{eq-eqb, ne_eqb, ltb-true, ltb-false}
use Rattle.sheet.specs.declared.Literals.{Literals}
use Rattle.sheet.specs.Literals.{has, mem, sign, contains}
use Rattle.sheet.specs.inner.Masks.{next}
use Rattle.sheet.proofs.laws.literals.MaskBits.{has_zero, has_suc, has_or, has_none, has_below}
use Rattle.sheet.proofs.laws.base.Bools.{or_cases}
use Rattle.sheet.proofs.laws.literals.LiteralBytes.{next_is}

-- ---- bits after a shift
pub has_shr : (m p i : ℕ) → has (m / 2 ^ p) i ≡ has m (p + i)
unfolding has
has_shr m p i =
    ap (λ (x : ℕ). eqb (x % 2) 1) (div-div-eq-div-mul m (2 ^ p) (2 ^ i) ∙ ap (λ (x : ℕ). m / x) (sym (pow-add 2 p i)))

-- ---- the lowest set bit
low_bit : (x d : ℕ) → x % 2 ≡ suc d → has x 0 ≡ true
low_bit x d e = has_zero x ∙ eq-eqb (x % 2) 1 (omega arith)

no_bit : (x : ℕ) → x % 2 ≡ 0 → has x 0 ≡ false
no_bit x e = has_zero x ∙ ne_eqb (x % 2) 1 (λ f. omega arith)

-- it is set
pub trailing_bit : (k x : ℕ) → x < 2 ^ k → (x ≡ 0 → ⊥) → has x (count_trailing_zeros k x) ≡ true
unfolding count_trailing_zeros
trailing_bit zero x h z = absurd (z (omega arith))
trailing_bit (suc k) x h z = go (x % 2) refl (λ (y : x / 2 ≡ 0 → ⊥). trailing_bit k (x / 2) (omega arith) y)
  where
    go : (d : ℕ) → x % 2 ≡ d → ((x / 2 ≡ 0 → ⊥) → has (x / 2) (count_trailing_zeros k (x / 2)) ≡ true)
        → has x (under d (count_trailing_zeros k (x / 2))) ≡ true
    go zero e ih = has_suc x (count_trailing_zeros k (x / 2)) ∙ ih (λ (y : x / 2 ≡ 0). z (omega arith))
    go (suc d) e ih = low_bit x d e

-- and none below it
pub trailing_low : (k x i : ℕ) → i < count_trailing_zeros k x → has x i ≡ false
unfolding count_trailing_zeros
trailing_low zero x i h = absurd (omega arith)
trailing_low (suc k) x i h = go (x % 2) refl i h (λ j g. trailing_low k (x / 2) j g)
  where
    go : (d : ℕ) → x % 2 ≡ d → (i : ℕ) → i < under d (count_trailing_zeros k (x / 2))
        → ((j : ℕ) → j < count_trailing_zeros k (x / 2) → has (x / 2) j ≡ false) → has x i ≡ false
    go zero e zero g ih = no_bit x e
    go zero e (suc j) g ih = has_suc x j ∙ ih j (omega arith)
    go (suc d) e i g ih = absurd (omega arith)

-- ---- the propositions that a names, from p on
neither : (x y : Bool) → (x || y) ≡ false → (x ≡ false) × (y ≡ false)
neither true y e = absurd (true≢false e)
neither false y e = (refl, e)

-- no literal at a proposition that is not named
unnamed : (a : Literals) (l : ℕ) → has (bit_or a.trues a.falses) (l / 2) ≡ false → contains a l ≡ false
unfolding contains mem
unnamed a l e = go (sign l)
  where
    both : (has a.trues (l / 2) ≡ false) × (has a.falses (l / 2) ≡ false)
    both = neither _ _ (sym (has_or a.trues a.falses (l / 2)) ∙ e)

    go : (s : Bool) → mem a s (l / 2) ≡ false
    go true = both.0
    go false = both.1

-- a named proposition has its true or its false literal
named : (a : Literals) (q : ℕ) → has (bit_or a.trues a.falses) q ≡ true → contains a (2 * q) ≡ false → contains a (2 * q + 1) ≡ true
unfolding contains mem sign
named a q e f =
    let i : 2 * q / 2 ≡ q = omega arith in
    let j : (2 * q + 1) / 2 ≡ q = omega arith in
    let g : has a.trues q ≡ false = rw (eq-eqb (2 * q % 2) 0 (omega arith), i) at f in
    rw (ne_eqb ((2 * q + 1) % 2) 0 (λ h. omega arith), j)
    (⊎_elim (λ t. absurd (true≢false (sym t ∙ g))) (λ t. t)
    (or_cases (has a.trues q) (has a.falses q) (sym (has_or a.trues a.falses q) ∙ e)))

module _ (a : Literals) (p : ℕ) where
  rest : ℕ
  rest = bit_or a.trues a.falses / 2 ^ p

  at_rest : (k : ℕ) → 2 * p ≤ k → has (bit_or a.trues a.falses) (k / 2) ≡ has rest (k / 2 - p)
  unfolding rest
  at_rest k h =
      let e : k / 2 ≡ p + (k / 2 - p) = omega arith in
      ap (has (bit_or a.trues a.falses)) e ∙ sym (has_shr (bit_or a.trues a.falses) p (k / 2 - p))

  -- nothing is named from p on
  pub none_named : p ≤ 32 → bit_or a.trues a.falses / 2 ^ p ≡ 0 → 64 ≡ next a (2 * p)
  unfolding rest
  none_named b z =
      next_is a (2 * p) 64 (omega arith) (omega arith) (λ h. absurd (omega arith))
      (λ k h i. unnamed a k (at_rest k h ∙ ap (λ (x : ℕ). has x (k / 2 - p)) z ∙ has_none (k / 2 - p)))

  module _ (ht : a.trues < 2 ^ 32) (hf : a.falses < 2 ^ 32) (z : bit_or a.trues a.falses / 2 ^ p ≡ 0 → ⊥) where
    q : ℕ
    unfolding rest
    q = p + count_trailing_zeros 32 rest

    small : rest < 2 ^ 32
    unfolding rest
    small = le_lt (bit_or a.trues a.falses) (or_lt 32 a.trues a.falses ht hf)
      where
        le_lt : (x : ℕ) → x < 2 ^ 32 → x / 2 ^ p < 2 ^ 32
        le_lt x h = lt_of_le_of_lt (div-le_self x (2 ^ p)) h

    set_there : has (bit_or a.trues a.falses) q ≡ true
    unfolding rest q
    set_there = sym (has_shr (bit_or a.trues a.falses) p (count_trailing_zeros 32 rest)) ∙ trailing_bit 32 rest small z

    below : (k : ℕ) → 2 * p ≤ k → k < 2 * q → contains a k ≡ false
    unfolding rest q
    below k h i = unnamed a k (at_rest k h ∙ trailing_low 32 rest (k / 2 - p) (omega arith))

    inside : q < 32
    inside = has_below (or_lt 32 a.trues a.falses ht hf) set_there

    -- the lowest named proposition, with its true literal or else its false one
    pub first_true : contains a (2 * (p + count_trailing_zeros 32 (bit_or a.trues a.falses / 2 ^ p))) ≡ true
        → 2 * (p + count_trailing_zeros 32 (bit_or a.trues a.falses / 2 ^ p)) ≡ next a (2 * p)
    unfolding rest q
    first_true e = next_is a (2 * p) (2 * q) (omega arith) (omega (arith, inside)) (λ h. e) below

    pub first_false : contains a (2 * (p + count_trailing_zeros 32 (bit_or a.trues a.falses / 2 ^ p))) ≡ false
        → 2 * (p + count_trailing_zeros 32 (bit_or a.trues a.falses / 2 ^ p)) + 1 ≡ next a (2 * p)
    unfolding rest q
    first_false e =
        next_is a (2 * p) (2 * q + 1) (omega arith) (omega (arith, inside)) (λ h. named a q set_there e)
        (λ k h i. pick k h (ltb k (2 * q)) refl i)
      where
        pick : (k : ℕ) → 2 * p ≤ k → (t : Bool) → ltb k (2 * q) ≡ t → k < 2 * q + 1 → contains a k ≡ false
        pick k h true f i = below k h (ltb-true k (2 * q) f)
        pick k h false f i =
            let s : 2 * q ≡ k = omega (arith, ltb-false k (2 * q) f) in
            subst (λ (x : ℕ). contains a x ≡ false) s e
