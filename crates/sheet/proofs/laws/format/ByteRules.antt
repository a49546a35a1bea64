-- The rules of single bytes: when a count, a literal or a move number has no fault, and when each of its faults.
-- For `count_fault`, `literal_fault`, `number_fault` of src/reader.rt, for Encodings, and for `judge_2` to `judge_7`. Assumes nothing.
use mathlib.Core.Path.{◌≡◌, refl, sym, ◌∙◌}
use mathlib.Core.Bool.{Bool, true, false, cond}
use mathlib.Core.Logic.{◌⊎◌, inl, inr, ◌↔◌}
use mathlib.Core.Option.{Option, none, some}
use Prim.Native.Nat.{ℕ, zero, suc, ◌+◌, ◌*◌, ◌/◌, ◌%◌, ◌≤◌, ◌<◌}
use native.Mathlib.Omega.{arith}
use lib.Dec.{ltb, leb, eqb}
use borrow.Author.Tests.{ltb-true, ltb-false, le-ltb, leb-true, leb-false, le-leb, lt-leb, eq-eqb, ne_eqb, eqb-true, eqb-false}
use Rattle.sheet.specs.Format.{count_fault, literal_fault, number_fault}
use Rattle.sheet.specs.inner.Reads.{literal_before}

-- ---- a count
pub count_0 : (low high b : ℕ) → (count_fault low high b ≡ 0) ↔ ((low ≤ b) × (b ≤ high))
unfolding count_fault
count_0 low high b = (λ e. go (ltb b low) refl (ltb high b) refl e, λ h. rw (le-ltb b low h.0, le-ltb high b h.1))
  where
    go : (c : Bool) → ltb b low ≡ c → (d : Bool) → ltb high b ≡ d → ◌≡◌ {A = ℕ} (cond c 2 (cond d 2 0)) 0 → (low ≤ b) × (b ≤ high)
    go true p d q e = absurd (omega arith)
    go false p true q e = absurd (omega arith)
    go false p false q e = (ltb-false b low p, ltb-false high b q)

pub count_2 : (low high b : ℕ) → (count_fault low high b ≡ 2) ↔ ((b < low) ⊎ (high < b))
count_2 low high b = go (ltb b low) refl (ltb high b) refl
  where
    go : (c : Bool) → ltb b low ≡ c → (d : Bool) → ltb high b ≡ d → (count_fault low high b ≡ 2) ↔ ((b < low) ⊎ (high < b))
    go true e d f = (λ q. inl (ltb-true b low e), λ h. unfold count_fault in rw e)
    go false e true f = (λ q. inr (ltb-true high b f), λ h. unfold count_fault in rw (e, f))
    go false e false f = (λ q. absurd (omega (arith, sym clear ∙ q)), λ h. absurd (no h))
      where
        clear : count_fault low high b ≡ 0
        clear = unfold count_fault in rw (e, f)

        no : (b < low) ⊎ (high < b) → ⊥
        no (inl l) = omega (arith, ltb-false b low e)
        no (inr l) = omega (arith, ltb-false high b f)

-- ---- a move number
pub number_0 : (m b : ℕ) → (number_fault m b ≡ 0) ↔ (b < m)
unfolding number_fault
number_0 m b = (λ e. go (leb m b) refl e, λ h. rw (lt-leb m b h))
  where
    go : (c : Bool) → leb m b ≡ c → ◌≡◌ {A = ℕ} (cond c 7 0) 0 → b < m
    go true p e = absurd (omega arith)
    go false p e = leb-false m b p

pub number_7 : (m b : ℕ) → (number_fault m b ≡ 7) ↔ (m ≤ b)
number_7 m b = (λ q. go (leb m b) refl q, λ h. unfold number_fault in rw (le-leb m b h))
  where
    go : (c : Bool) → leb m b ≡ c → number_fault m b ≡ 7 → m ≤ b
    go true e q = leb-true m b e
    go false e q = absurd (omega (arith, sym clear ∙ q))
      where
        clear : number_fault m b ≡ 0
        clear = unfold number_fault in rw e

-- ---- a literal
-- a chain of three tests, with three numbers that differ and none 0
chain : Bool → Bool → Bool → ℕ
chain a b c = cond a 3 (cond b 4 (cond c 5 0))

chain_0 : (a b c : Bool) → chain a b c ≡ 0 → (a ≡ false) × (b ≡ false) × (c ≡ false)
unfolding chain
chain_0 true b c e = absurd (omega arith)
chain_0 false true c e = absurd (omega arith)
chain_0 false false true e = absurd (omega arith)
chain_0 false false false e = (refl, refl, refl)

chain_3 : (a b c : Bool) → chain a b c ≡ 3 → a ≡ true
unfolding chain
chain_3 true b c e = refl
chain_3 false true c e = absurd (omega arith)
chain_3 false false true e = absurd (omega arith)
chain_3 false false false e = absurd (omega arith)

chain_4 : (a b c : Bool) → chain a b c ≡ 4 → (a ≡ false) × (b ≡ true)
unfolding chain
chain_4 true b c e = absurd (omega arith)
chain_4 false true c e = (refl, refl)
chain_4 false false true e = absurd (omega arith)
chain_4 false false false e = absurd (omega arith)

chain_5 : (a b c : Bool) → chain a b c ≡ 5 → (a ≡ false) × (b ≡ false) × (c ≡ true)
unfolding chain
chain_5 true b c e = absurd (omega arith)
chain_5 false true c e = absurd (omega arith)
chain_5 false false true e = (refl, refl, refl)
chain_5 false false false e = absurd (omega arith)

first_of : (n b : ℕ) → literal_fault n none b ≡ chain (leb (2 * n) b) false false
unfolding literal_fault chain
first_of n b = refl

after_of : (n l b : ℕ) → literal_fault n (some l) b ≡ chain (leb (2 * n) b) (leb b l) (eqb (b / 2) (l / 2))
unfolding literal_fault chain
after_of n l b = refl

-- the first byte of the proposition after that of l
abbrev pub beyond : ℕ → ℕ
beyond l = 2 * (l / 2 + 1)

-- the least byte that may follow `last`
abbrev pub least : Option ℕ → ℕ
least none = 0
least (some l) = beyond l

pub literal_0 : (n : ℕ) (last : Option ℕ) (b : ℕ) → (literal_fault n last b ≡ 0) ↔ ((least last ≤ b) × (b < 2 * n))
unfolding chain
literal_0 n none b = (
  λ e. (omega arith, leb-false _ _ (chain_0 _ false false (sym (first_of n b) ∙ e)).0),
  λ h. first_of n b ∙ rw (lt-leb (2 * n) b h.1),
)
literal_0 n (some l) b = (there, back)
  where
    there : literal_fault n (some l) b ≡ 0 → (beyond l ≤ b) × (b < 2 * n)
    there e =
        let r = chain_0 (leb (2 * n) b) (leb b l) (eqb (b / 2) (l / 2)) (sym (after_of n l b) ∙ e) in
        let i : b / 2 ≡ l / 2 → ⊥ = eqb-false (b / 2) (l / 2) r.2 in
        (omega (arith, leb-false b l r.1), leb-false (2 * n) b r.0)

    back : (beyond l ≤ b) × (b < 2 * n) → literal_fault n (some l) b ≡ 0
    back h =
        after_of n l b
        ∙ rw (lt-leb (2 * n) b h.1, lt-leb b l (omega arith), ne_eqb (b / 2) (l / 2) (λ (q : b / 2 ≡ l / 2). omega arith))

pub literal_3 : (n : ℕ) (last : Option ℕ) (b : ℕ) → (literal_fault n last b ≡ 3) ↔ (2 * n ≤ b)
unfolding chain
literal_3 n none b = (λ e. leb-true _ _ (chain_3 _ false false (sym (first_of n b) ∙ e)), λ h. first_of n b ∙ rw (le-leb (2 * n) b h))
literal_3 n (some l) b = (
  λ e. leb-true _ _ (chain_3 _ (leb b l) (eqb (b / 2) (l / 2)) (sym (after_of n l b) ∙ e)),
  λ h. after_of n l b ∙ rw (le-leb (2 * n) b h),
)

-- the first literal of a list has no fault above 3
pub first_most : (n b : ℕ) → literal_fault n none b ≤ 3
unfolding literal_fault
first_most n b = go (leb (2 * n) b)
  where
    go : (t : Bool) → cond t 3 0 ≤ 3
    go true = omega arith
    go false = omega arith

pub literal_4 : (n l b : ℕ) → (literal_fault n (some l) b ≡ 4) ↔ ((b < 2 * n) × (b ≤ l))
unfolding chain
literal_4 n l b = (
  λ e. let r = chain_4 _ _ (eqb (b / 2) (l / 2)) (sym (after_of n l b) ∙ e) in (leb-false _ _ r.0, leb-true _ _ r.1),
  λ h. after_of n l b ∙ rw (lt-leb (2 * n) b h.0, le-leb b l h.1),
)

pub literal_5 : (n l b : ℕ) → (literal_fault n (some l) b ≡ 5) ↔ ((b < 2 * n) × (l < b) × (b / 2 ≡ l / 2))
unfolding chain
literal_5 n l b = (
  λ e. let r = chain_5 _ _ _ (sym (after_of n l b) ∙ e) in (leb-false _ _ r.0, leb-false _ _ r.1, eqb-true _ _ r.2),
  λ h. after_of n l b ∙ rw (lt-leb (2 * n) b h.0, lt-leb b l h.1, eq-eqb (b / 2) (l / 2) h.2),
)

-- ---- a literal against the floor of `literal_fault`, which is one more than the literal before
module _ (n floor b : ℕ) (h : b < 2 * n) where
  pub floor_order : b < floor → literal_fault n (literal_before floor) b ≡ 4
  floor_order = go floor
    where
      go : (f : ℕ) → b < f → literal_fault n (literal_before f) b ≡ 4
      go zero i = absurd (omega arith)
      go (suc l) i = (literal_4 n l b).1 (h, omega arith)

  pub floor_complement : b ≡ floor → floor % 2 ≡ 1 → literal_fault n (literal_before floor) b ≡ 5
  floor_complement = go floor
    where
      go : (f : ℕ) → b ≡ f → f % 2 ≡ 1 → literal_fault n (literal_before f) b ≡ 5
      go zero e o = absurd (let z : ◌≡◌ {A = ℕ} 0 1 = o in omega arith)
      go (suc l) e o = (literal_5 n l b).1 (h, omega arith, omega arith)

  pub floor_fine : floor ≤ b → (b ≡ floor → floor % 2 ≡ 1 → ⊥) → literal_fault n (literal_before floor) b ≡ 0
  floor_fine = go floor
    where
      go : (f : ℕ) → f ≤ b → (b ≡ f → f % 2 ≡ 1 → ⊥) → literal_fault n (literal_before f) b ≡ 0
      go zero i e = (literal_0 n none b).1 (omega arith, h)
      go (suc l) i e = (literal_0 n (some l) b).1 (above (leb (beyond l) b) refl, h)
        where
          above : (t : Bool) → leb (beyond l) b ≡ t → beyond l ≤ b
          above true q = leb-true (beyond l) b q
          above false q = let j = leb-false (beyond l) b q in absurd (e (omega arith) (omega arith))
