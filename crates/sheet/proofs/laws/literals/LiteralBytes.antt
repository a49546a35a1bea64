-- Literal bytes: a byte is a sign and a proposition, and the bytes of a set are found in ascending order (`next`, `members`).
-- For `lowest` and `next` of src/masks.rt, and for the loops over literals in table. Assumes nothing.
use mathlib.Core.Path.{◌≡◌, refl, sym, ap, ap₂, ◌∙◌, subst}
use mathlib.Core.Bool.{Bool, true, false, cond, true≢false}
use mathlib.Core.List.{List, [], ◌∷◌, Memᴰ}
use mathlib.Core.Logic.{◌⊎◌, inl, inr, ⊎_elim}
use Prim.Native.Nat.{ℕ, zero, suc, ◌+◌, ◌-◌, ◌*◌, ◌/◌, ◌%◌, ◌≤◌, ◌<◌}
use native.Mathlib.Nat.{eq-or-lt_of_le}
use native.Mathlib.Numerals.{add-one}
use native.Mathlib.Omega.{arith}
use lib.Dec.{eqb, ltb}
use borrow.Author.Tests.{eq-eqb, ne_eqb, eqb-true, eqb-false, ltb-true, ltb-false}
use Rattle.sheet.specs.declared.Literals.{Literals}
use Rattle.sheet.specs.Literals.{mem, single, sign, literal, contains, below, within, members_from, members}
use Rattle.sheet.specs.inner.Masks.{byte, next_from, next}
use Rattle.sheet.proofs.laws.literals.LiteralSets.{below_of, within_single}

-- ---- a byte is a sign and a proposition

pub byte_sign : (s : Bool) (p : ℕ) → sign (byte s p) ≡ s
unfolding sign byte
byte_sign true p = eq-eqb (2 * p % 2) 0 (omega arith)
byte_sign false p = ne_eqb ((2 * p + 1) % 2) 0 (λ (e : (2 * p + 1) % 2 ≡ 0). omega arith)

pub byte_place : (s : Bool) (p : ℕ) → byte s p / 2 ≡ p
unfolding byte
byte_place true p = omega arith
byte_place false p = omega arith

pub byte_of : (l : ℕ) → byte (sign l) (l / 2) ≡ l
unfolding sign byte
byte_of l = go (eqb (l % 2) 0) refl
  where
    go : (t : Bool) → eqb (l % 2) 0 ≡ t → byte (eqb (l % 2) 0) (l / 2) ≡ l
    go true e = rw e (omega (arith, eqb-true (l % 2) 0 e))
    go false e = rw e (omega (arith, eqb-false (l % 2) 0 e))

pub byte_lt : (n : ℕ) (s : Bool) (p : ℕ) → p < n → byte s p < 2 * n
unfolding byte
byte_lt n true p h = omega arith
byte_lt n false p h = omega arith

pub contains_byte : (a : Literals) (s : Bool) (p : ℕ) → contains a (byte s p) ≡ mem a s p
unfolding contains
contains_byte a s p = ap₂ (mem a) (byte_sign s p) (byte_place s p)

pub literal_byte : (s : Bool) (p : ℕ) → literal (byte s p) ≡ single s p
unfolding literal
literal_byte s p = ap₂ single (byte_sign s p) (byte_place s p)

pub within_literal : (l : ℕ) (a : Literals) → within (literal l) a ≡ contains a l
unfolding literal contains
within_literal l a = within_single (sign l) (l / 2) a

-- a literal of a set below n is below 2n
pub contains_lt : (n : ℕ) (a : Literals) → below n a ≡ true → (l : ℕ) → contains a l ≡ true → l < 2 * n
unfolding contains
contains_lt n a b l e = omega (arith, below_of n a b (sign l) (l / 2) e)

-- ---- the next literal, and the literals from l on

module _ (P : ℕ → Type 0) (stop : (l : ℕ) → 64 ≤ l → P l) (step : (l : ℕ) → l < 64 → P (l + 1) → P l) where
  down_from : (k l : ℕ) → 64 ≤ l + k → P l
  down_from zero l h = stop l (omega arith)
  down_from (suc k) l h = pick (down_from k (l + 1) (omega arith)) (ltb l 64) refl
    where
      pick : P (l + 1) → (t : Bool) → ltb l 64 ≡ t → P l
      pick r true e = step l (ltb-true l 64 e) r
      pick r false e = stop l (ltb-false l 64 e)

  -- what holds from 64 on, and of a byte below 64 if of the next, holds of all
  pub down : (l : ℕ) → P l
  down l = down_from 64 l (omega arith)

room : (l : ℕ) → l < 64 → 64 - l ≡ suc (64 - (l + 1))
room l h = omega arith

none : (l : ℕ) → 64 ≤ l → 64 - l ≡ 0
none l h = omega arith

pub next_end : (a : Literals) (l : ℕ) → 64 ≤ l → next a l ≡ l
unfolding next next_from
next_end a l h = ap (λ (k : ℕ). next_from k a l) (none l h)

next_turn : (a : Literals) (l : ℕ) → l < 64 → next a l ≡ cond (contains a l) l (next a (l + 1))
unfolding next next_from
next_turn a l h =
    ap (λ (k : ℕ). next_from k a l) (room l h) ∙ ap (λ (m : ℕ). cond (contains a l) l (next_from (64 - (l + 1)) a m)) (sym (add-one l))

pub next_here : (a : Literals) (l : ℕ) → l < 64 → contains a l ≡ true → next a l ≡ l
next_here a l h e = next_turn a l h ∙ rw e

pub next_step : (a : Literals) (l : ℕ) → l < 64 → contains a l ≡ false → next a l ≡ next a (l + 1)
next_step a l h e = next_turn a l h ∙ rw e

pub members_end : (a : Literals) (l : ℕ) → 64 ≤ l → members a l ≡ []
unfolding members members_from
members_end a l h = ap (λ (k : ℕ). members_from k a l) (none l h)

members_turn : (a : Literals) (l : ℕ) → l < 64 → members a l ≡ cond (contains a l) (l ∷ members a (l + 1)) (members a (l + 1))
unfolding members members_from
members_turn a l h =
    ap (λ (k : ℕ). members_from k a l) (room l h)
    ∙ ap (λ (m : ℕ). cond (contains a l) (l ∷ members_from (64 - (l + 1)) a m) (members_from (64 - (l + 1)) a m)) (sym (add-one l))

pub members_here : (a : Literals) (l : ℕ) → l < 64 → contains a l ≡ true → members a l ≡ l ∷ members a (l + 1)
members_here a l h e = members_turn a l h ∙ rw e

pub members_step : (a : Literals) (l : ℕ) → l < 64 → contains a l ≡ false → members a l ≡ members a (l + 1)
members_step a l h e = members_turn a l h ∙ rw e

-- a turn below 64, by whether l is in a
module _ (a : Literals) (P : ℕ → Type 0) (stop : (l : ℕ) → 64 ≤ l → P l)
    (here : (l : ℕ) → l < 64 → contains a l ≡ true → P l) (skip : (l : ℕ) → l < 64 → contains a l ≡ false → P (l + 1) → P l) where
  pub scan : (l : ℕ) → P l
  scan = down P stop (λ l h r. pick l h r (contains a l) refl)
    where
      pick : (l : ℕ) → l < 64 → P (l + 1) → (t : Bool) → contains a l ≡ t → P l
      pick l h r true e = here l h e
      pick l h r false e = skip l h e r

-- the literals from l on are those from the next one on
pub members_next : (a : Literals) (l : ℕ) → members a l ≡ members a (next a l)
members_next a =
    scan a (λ (l : ℕ). members a l ≡ members a (next a l)) (λ l h. ap (members a) (sym (next_end a l h)))
    (λ l h e. ap (members a) (sym (next_here a l h e)))
    (λ l h e r. members_step a l h e ∙ r ∙ ap (members a) (sym (next_step a l h e)))

-- what is found is a literal of a, not before l
pub next_found : (a : Literals) (l : ℕ) → next a l < 64 → contains a (next a l) ≡ true
next_found a =
    scan a (λ (l : ℕ). next a l < 64 → contains a (next a l) ≡ true) (λ l h k. absurd (omega (arith, next_end a l h)))
    (λ l h e k. ap (contains a) (next_here a l h e) ∙ e)
    (λ l h e r k. ap (contains a) (next_step a l h e) ∙ r (subst (λ (x : ℕ). x < 64) (next_step a l h e) k))

pub next_ge : (a : Literals) (l : ℕ) → l ≤ next a l
next_ge a =
    scan a (λ (l : ℕ). l ≤ next a l) (λ l h. omega (arith, next_end a l h)) (λ l h e. omega (arith, next_here a l h e))
    (λ l h e r. omega (arith, r, next_step a l h e))

pub next_least : (a : Literals) (l m : ℕ) → l ≤ m → m < next a l → contains a m ≡ false
next_least a l m =
    scan a (λ (l : ℕ). l ≤ m → m < next a l → contains a m ≡ false) (λ l h i k. absurd (omega (arith, next_end a l h)))
    (λ l h e i k. absurd (omega (arith, next_here a l h e)))
    (λ l h e r i k.
    ⊎_elim (λ (q : l ≡ m). ap (contains a) (sym q) ∙ e)
    (λ (q : l < m). r (omega arith) (subst (λ (x : ℕ). m < x) (next_step a l h e) k))
    (eq-or-lt_of_le i))
    l

next_most : (a : Literals) (l : ℕ) → l ≤ 64 → next a l ≤ 64
next_most a =
    scan a (λ (l : ℕ). l ≤ 64 → next a l ≤ 64) (λ l h k. omega (arith, next_end a l h)) (λ l h e k. omega (arith, next_here a l h e))
    (λ l h e r k. omega (arith, next_step a l h e, r (omega arith)))

-- the next literal is the only one that fits
pub next_is : (a : Literals) (l m : ℕ) → l ≤ m → m ≤ 64 → (m < 64 → contains a m ≡ true) → ((k : ℕ) → l ≤ k → k < m → contains a k ≡ false)
    → m ≡ next a l
next_is a l m le most here none = go (ltb (next a l) m) refl (ltb m (next a l)) refl
  where
    go : (t : Bool) → ltb (next a l) m ≡ t → (u : Bool) → ltb m (next a l) ≡ u → m ≡ next a l
    go true e u f =
        let h : next a l < m = ltb-true (next a l) m e in
        absurd (true≢false (sym (next_found a l (omega arith)) ∙ none (next a l) (next_ge a l) h))
    go false e true f = absurd (true≢false (sym (here (small (ltb m 64) refl)) ∙ next_least a l m le (ltb-true m (next a l) f)))
      where
        small : (t : Bool) → ltb m 64 ≡ t → m < 64
        small true q = ltb-true m 64 q
        small false q = absurd (omega (arith, ltb-false m 64 q, ltb-true m (next a l) f, next_most a l (omega arith)))
    go false e false f = omega (arith, ltb-false (next a l) m e, ltb-false m (next a l) f)

pub members_cons : (a : Literals) (l : ℕ) → next a l < 64 → members a l ≡ next a l ∷ members a (next a l + 1)
members_cons a l h = members_next a l ∙ members_here a (next a l) h (next_found a l h)

pub members_nil : (a : Literals) (l : ℕ) → 64 ≤ next a l → members a l ≡ []
members_nil a l h = members_next a l ∙ members_end a (next a l) h

-- for a loop over the literals: l = next(a, 0); while l < 64 { ..; l = next(a, l + 1); }, with `next a l ≡ l` in its invariant
pub next_next : (a : Literals) (l : ℕ) → next a (next a l) ≡ next a l
next_next a =
    scan a (λ (l : ℕ). next a (next a l) ≡ next a l) (λ l h. ap (next a) (next_end a l h)) (λ l h e. ap (next a) (next_here a l h e))
    (λ l h e r. ap (next a) (next_step a l h e) ∙ r ∙ sym (next_step a l h e))

pub members_loop : (a : Literals) (l : ℕ) → next a l ≡ l → l < 64 → members a l ≡ l ∷ members a (next a (l + 1))
members_loop a l e h =
    members_here a l h (ap (contains a) (sym e) ∙ next_found a l (subst (λ (x : ℕ). x < 64) (sym e) h))
    ∙ ap (λ (r : List ℕ). l ∷ r) (members_next a (l + 1))

-- a byte is listed if it is a literal of a from l on
pub of_member : (a : Literals) (m l : ℕ) → Memᴰ m (members a l) → (l ≤ m) × (m < 64) × (contains a m ≡ true)
of_member a m = down P (λ l h i. absurd (mathlib.Core.List.Memᴰ.not-nil (subst (Memᴰ m) (members_end a l h) i)))
    (λ l h r i. pick l h r i (contains a l) refl)
  where
    P : ℕ → Type 0
    P l = Memᴰ m (members a l) → (l ≤ m) × (m < 64) × (contains a m ≡ true)

    pick : (l : ℕ) → l < 64 → P (l + 1) → Memᴰ m (members a l) → (t : Bool) → contains a l ≡ t → (l ≤ m) × (m < 64)
        × (contains a m ≡ true)
    pick l h r i true e =
        ⊎_elim (λ (q : m ≡ l). (omega arith, omega arith, ap (contains a) q ∙ e))
        (λ (j : Memᴰ m (members a (l + 1))). let k = r j in (omega arith, k.1, k.2))
        (mathlib.Core.List.Memᴰ.cases_cons (subst (Memᴰ m) (members_here a l h e) i))
    pick l h r i false e = let k = r (subst (Memᴰ m) (members_step a l h e) i) in (omega arith, k.1, k.2)

pub member_of : (a : Literals) (m : ℕ) → m < 64 → contains a m ≡ true → (l : ℕ) → l ≤ m → Memᴰ m (members a l)
member_of a m k e = down P (λ l h i. absurd (omega arith)) (λ l h r i. pick l h r (contains a l) refl (eq-or-lt_of_le i))
  where
    P : ℕ → Type 0
    P l = l ≤ m → Memᴰ m (members a l)

    pick : (l : ℕ) → l < 64 → P (l + 1) → (t : Bool) → contains a l ≡ t → (l ≡ m) ⊎ (l < m) → Memᴰ m (members a l)
    pick l h r true f (inl q) = rw (members_here a l h f) (mathlib.Core.List.Memᴰ.head (sym q))
    pick l h r true f (inr q) = rw (members_here a l h f) (mathlib.Core.List.Memᴰ.tail (r (omega arith)))
    pick l h r false f (inl q) = absurd (true≢false (sym e ∙ ap (contains a) (sym q) ∙ f))
    pick l h r false f (inr q) = rw (members_step a l h f) (r (omega arith))
