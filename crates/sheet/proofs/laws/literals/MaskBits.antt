-- Masks by their bits: what `has` says of each operation, and that the bits decide the number.
-- For the functions of src/masks.rt, and for the laws of literal sets (LiteralSets, Results). Assumes nothing.
use mathlib.Core.Path.{◌≡◌, refl, sym, ap, ap₂, ◌∙◌, subst}
use mathlib.Core.Logic.{◌⊎◌, inl, inr}
use mathlib.Core.Bool.{Bool, true, false, not, ◌&&◌, ◌||◌, and-eq-true_iff, true≢false, false≢true}
use Prim.Native.Nat.{ℕ, zero, suc, ◌-◌, ◌/◌, ◌%◌, ◌^◌, ◌≤◌, ◌<◌}
use native.Mathlib.Nat.{div-one, div-div-eq-div-mul, pow-succ', mod-lt, zero-lt-suc, div-eq_of_lt, zero-div, mod-eq_of_lt, lt_of_lt_of_le, le_of_suc-le-suc, not-suc-le-zero}
use native.Mathlib.Omega.{arith}
use lib.Dec.{eqb, ltb, eqb-suc-suc, eqb-zero-suc, eqb-suc-zero, leb-suc-suc, leb-zero, leb-suc-zero}
use lib.Arith.{bin_ind}
use lib.Bits.{bit_and, bit_or, or_add_and, and_step, and_shr, or_shr, and_mod, or_mod, and_le_l, and_le_r, and_mask}
use lib.Pow.{pow_mono, pow_pos}
use borrow.Author.Tests.{eq-eqb, eqb-true, lt-ltb, ltb-true, ltb-false, not-true}
use Rattle.sheet.specs.Literals.{has}
use Rattle.sheet.proofs.laws.base.Bools.{iff_eq}

-- ---- a bit at 0, and one further up

pub has_zero : (m : ℕ) → has m 0 ≡ eqb (m % 2) 1
unfolding has
has_zero m = ap (λ (x : ℕ). eqb (x % 2) 1) (div-one m)

pub has_suc : (m p : ℕ) → has m (suc p) ≡ has (m / 2) p
unfolding has
has_suc m p =
    ap (λ (x : ℕ). eqb (x % 2) 1)
    (ap (λ (x : ℕ). m / x) (pow-succ' 2 p) ∙ sym (div-div-eq-div-mul m 2 (2 ^ p)))

-- ---- two digits

-- a digit is 0 or 1
digit : (m : ℕ) → (m % 2 ≡ 0) ⊎ (m % 2 ≡ 1)
digit m = go (m % 2) (mod-lt m (zero-lt-suc 1))
  where
    go : (x : ℕ) → x < 2 → (x ≡ 0) ⊎ (x ≡ 1)
    go zero h = inl refl
    go (suc zero) h = inr refl
    go (suc (suc x)) h = absurd (not-suc-le-zero (le_of_suc-le-suc (le_of_suc-le-suc h)))

-- an operation that works bit by bit, by its four cases
module _ (op : ℕ → ℕ → ℕ) (f : Bool → Bool → Bool) where
  two : (x y : ℕ) → (x ≡ 0) ⊎ (x ≡ 1) → (y ≡ 0) ⊎ (y ≡ 1)
      → eqb (op 0 0) 1 ≡ f false false → eqb (op 0 1) 1 ≡ f false true → eqb (op 1 0) 1 ≡ f true false → eqb (op 1 1) 1 ≡ f true true
      → eqb (op x y) 1 ≡ f (eqb x 1) (eqb y 1)
  two x y (inl a) (inl b) h₀₀ h₀₁ h₁₀ h₁₁ = rw (a, b) h₀₀
  two x y (inl a) (inr b) h₀₀ h₀₁ h₁₀ h₁₁ = rw (a, b) h₀₁
  two x y (inr a) (inl b) h₀₀ h₀₁ h₁₀ h₁₁ = rw (a, b) h₁₀
  two x y (inr a) (inr b) h₀₀ h₀₁ h₁₀ h₁₁ = rw (a, b) h₁₁

pub has_and : (a b p : ℕ) → has (bit_and a b) p ≡ (has a p && has b p)
unfolding has
has_and a b p =
    ap (λ (x : ℕ). eqb (x % 2) 1) (and_shr a b p)
    ∙ ap (λ (x : ℕ). eqb x 1) (and_mod (a / 2 ^ p) (b / 2 ^ p) 1)
    ∙ two bit_and ◌&&◌ (a / 2 ^ p % 2) (b / 2 ^ p % 2) (digit (a / 2 ^ p)) (digit (b / 2 ^ p)) refl refl refl refl

pub has_or : (a b p : ℕ) → has (bit_or a b) p ≡ (has a p || has b p)
unfolding has
has_or a b p =
    ap (λ (x : ℕ). eqb (x % 2) 1) (or_shr a b p)
    ∙ ap (λ (x : ℕ). eqb x 1) (or_mod (a / 2 ^ p) (b / 2 ^ p) 1)
    ∙ two bit_or ◌||◌ (a / 2 ^ p % 2) (b / 2 ^ p % 2) (digit (a / 2 ^ p)) (digit (b / 2 ^ p)) refl refl refl refl

-- ---- the bits decide the number

pub has_none : (p : ℕ) → has 0 p ≡ false
unfolding has
has_none p = ap (λ (x : ℕ). eqb (x % 2) 1) (zero-div (2 ^ p))

same_digit : (a b : ℕ) → has a 0 ≡ has b 0 → a % 2 ≡ b % 2
same_digit a b e = go (digit a) (digit b)
  where
    e' : eqb (a % 2) 1 ≡ eqb (b % 2) 1
    e' = sym (has_zero a) ∙ e ∙ has_zero b

    go : (a % 2 ≡ 0) ⊎ (a % 2 ≡ 1) → (b % 2 ≡ 0) ⊎ (b % 2 ≡ 1) → a % 2 ≡ b % 2
    go (inl x) (inl y) = x ∙ sym y
    go (inl x) (inr y) = absurd (false≢true (rw (x, y) at e'))
    go (inr x) (inl y) = absurd (true≢false (rw (x, y) at e'))
    go (inr x) (inr y) = x ∙ sym y

halves : (a b : ℕ) → a / 2 ≡ b / 2 → a % 2 ≡ b % 2 → a ≡ b
halves a b h d = omega arith

no_bits : (b : ℕ) → ((p : ℕ) → has b p ≡ false) → b ≡ 0
no_bits =
    bin_ind (λ (b : ℕ). ((p : ℕ) → has b p ≡ false) → b ≡ 0) (λ h. refl)
    (λ n ih h. halves n 0 (ih (λ p. sym (has_suc n p) ∙ h (suc p))) (same_digit n 0 (h 0 ∙ sym (has_none 0))))

pub ext : (a b : ℕ) → ((p : ℕ) → has a p ≡ has b p) → a ≡ b
ext =
    bin_ind (λ (a : ℕ). (b : ℕ) → ((p : ℕ) → has a p ≡ has b p) → a ≡ b)
    (λ b h. sym (no_bits b (λ p. sym (h p) ∙ has_none p)))
    (λ n ih b h. halves n b (ih (b / 2) (λ p. sym (has_suc n p) ∙ h (suc p) ∙ has_suc b p)) (same_digit n b (h 0)))

-- ---- differences, powers and full masks

-- u within m, by halves
within_half : (m u : ℕ) → bit_and u m ≡ u → bit_and (u / 2) (m / 2) ≡ u / 2
within_half m u e = omega (arith, and_step u m, e, mod-lt u (zero-lt-suc 1), mod-lt m (zero-lt-suc 1))

within_digit : (m u : ℕ) → bit_and u m ≡ u → u % 2 ≤ m % 2
within_digit m u e = omega (arith, and_step u m, e)

-- m less a part u of it
pub has_sub : (p m u : ℕ) → bit_and u m ≡ u → has (m - u) p ≡ (has m p && not (has u p))
has_sub zero m u e =
    has_zero (m - u) ∙ ap (λ (x : ℕ). eqb x 1) odd
    ∙ two ◌-◌ (λ (s t : Bool). s && not t) (m % 2) (u % 2) (digit m) (digit u) refl refl refl refl
    ∙ ap₂ (λ (s t : Bool). s && not t) (sym (has_zero m)) (sym (has_zero u))
  where
    odd : (m - u) % 2 ≡ m % 2 - u % 2
    odd = omega (arith, within_digit m u e, subst (λ (x : ℕ). x ≤ m) e (and_le_r u m))
has_sub (suc p) m u e =
    has_suc (m - u) p ∙ ap (λ (x : ℕ). has x p) half ∙ has_sub p (m / 2) (u / 2) (within_half m u e)
    ∙ ap₂ (λ (s t : Bool). s && not t) (sym (has_suc m p)) (sym (has_suc u p))
  where
    half : (m - u) / 2 ≡ m / 2 - u / 2
    half = omega (arith, within_digit m u e, subst (λ (x : ℕ). x ≤ m) e (and_le_r u m))

part : (x y : Bool) → ((x && y) && x) ≡ (x && y)
part true true = refl
part true false = refl
part false y = refl

less : (x y : Bool) → (x && not (x && y)) ≡ (x && not y)
less true y = refl
less false y = refl

-- m less what it shares with k
pub has_minus : (m k p : ℕ) → has (m - bit_and m k) p ≡ (has m p && not (has k p))
has_minus m k p =
    has_sub p m (bit_and m k) (ext _ _ (λ q. simp has_and (part (has m q) (has k q))))
    ∙ simp has_and (less (has m p) (has k p))

pub has_pow : (p q : ℕ) → has (2 ^ q) p ≡ eqb p q
has_pow zero zero = has_zero 1
has_pow zero (suc q) = has_zero (2 ^ suc q) ∙ ap (λ (x : ℕ). eqb x 1) even ∙ sym (eqb-zero-suc q)
  where
    even : 2 ^ suc q % 2 ≡ 0
    even = omega arith
has_pow (suc p) zero = has_suc 1 p ∙ has_none p ∙ sym (eqb-suc-zero p)
has_pow (suc p) (suc q) = has_suc (2 ^ suc q) p ∙ ap (λ (x : ℕ). has x p) half ∙ has_pow p q ∙ sym (eqb-suc-suc p q)
  where
    half : 2 ^ suc q / 2 ≡ 2 ^ q
    half = omega arith

-- the n low bits
pub has_ones : (p n : ℕ) → has (2 ^ n - 1) p ≡ ltb p n
has_ones p zero = has_none p ∙ sym (leb-suc-zero p)
has_ones zero (suc n) = has_zero (2 ^ suc n - 1) ∙ ap (λ (x : ℕ). eqb x 1) odd ∙ sym (leb-suc-suc 0 n ∙ leb-zero n)
  where
    odd : (2 ^ suc n - 1) % 2 ≡ 1
    odd = omega (arith, pow_pos n)
has_ones (suc p) (suc n) =
    has_suc (2 ^ suc n - 1) p ∙ ap (λ (x : ℕ). has x p) half ∙ has_ones p n ∙ sym (leb-suc-suc (suc p) n)
  where
    half : (2 ^ suc n - 1) / 2 ≡ 2 ^ n - 1
    half = omega (arith, pow_pos n)

-- the complement of w in n bits
pub has_not : (n w p : ℕ) → w < 2 ^ n → has ((2 ^ n - 1) - w) p ≡ (ltb p n && not (has w p))
has_not n w p h =
    has_sub p (2 ^ n - 1) w (and_mask w n ∙ mod-eq_of_lt h) ∙ ap (λ (t : Bool). t && not (has w p)) (has_ones p n)

-- ---- the width

pub has_above : {n m p : ℕ} → m < 2 ^ n → n ≤ p → has m p ≡ false
unfolding has
has_above {n} {m} {p} h l = ap (λ (x : ℕ). eqb (x % 2) 1) (div-eq_of_lt (lt_of_lt_of_le h (pow_mono l)))

pub has_below : {n m p : ℕ} → m < 2 ^ n → has m p ≡ true → p < n
has_below {n} {m} {p} h e = ltb-true p n (go (ltb p n) refl)
  where
    go : (t : Bool) → ltb p n ≡ t → ltb p n ≡ true
    go true f = f
    go false f = absurd (true≢false (sym e ∙ has_above h (ltb-false p n f)))

pub below_has : (n m : ℕ) → ((p : ℕ) → has m p ≡ true → p < n) → m < 2 ^ n
below_has n m h = subst (λ (x : ℕ). x < 2 ^ n) (sym (and_mask m n) ∙ same) (mod-lt m (pow_pos n))
  where
    keep : (p : ℕ) (t : Bool) → has m p ≡ t → (has m p && ltb p n) ≡ has m p
    keep p true e = rw e (lt-ltb p n (h p e))
    keep p false e = rw e

    same : bit_and m (2 ^ n - 1) ≡ m
    same = ext _ _ (λ p. has_and m (2 ^ n - 1) p ∙ simp has_ones (keep p (has m p) refl))

-- ---- parts, common bits, and a bit to show

pub some_bit : (m : ℕ) → (m ≡ 0 → ⊥) → (p : ℕ) × (has m p ≡ true)
some_bit =
    bin_ind (λ (m : ℕ). (m ≡ 0 → ⊥) → (p : ℕ) × (has m p ≡ true)) (λ h. absurd (h refl)) (λ n ih h. pick n ih h (digit n))
  where
    pick : (n : ℕ) → ((n / 2 ≡ 0 → ⊥) → (p : ℕ) × (has (n / 2) p ≡ true)) → (n ≡ 0 → ⊥)
        → (n % 2 ≡ 0) ⊎ (n % 2 ≡ 1) → (p : ℕ) × (has n p ≡ true)
    pick n ih h (inl e) =
        let r : (p : ℕ) × (has (n / 2) p ≡ true) = ih (λ z. h (halves n 0 z e)) in
        (suc r.0, has_suc n r.0 ∙ r.1)
    pick n ih h (inr e) = (0, has_zero n ∙ ap (λ (x : ℕ). eqb x 1) e)

-- all bits of a are bits of b
abbrev pub Sub : ℕ → ℕ → Type 0
Sub a b = (p : ℕ) → has a p ≡ true → has b p ≡ true

-- no bit of a is a bit of b
abbrev pub Disjoint : ℕ → ℕ → Type 0
Disjoint a b = (p : ℕ) → has a p ≡ true → has b p ≡ false

pub sub_of : (a b : ℕ) → bit_and a b ≡ a → Sub a b
sub_of a b e p h = ((and-eq-true_iff (has a p) (has b p)).0 (sym (has_and a b p) ∙ ap (λ (x : ℕ). has x p) e ∙ h)).1

implied : (x y : Bool) → (x ≡ true → y ≡ true) → (x && y) ≡ x
implied true y h = h refl
implied false y h = refl

denied : (x y : Bool) → (x ≡ true → y ≡ false) → (x && y) ≡ false
denied true y h = h refl
denied false y h = refl

pub of_sub : (a b : ℕ) → Sub a b → bit_and a b ≡ a
of_sub a b h = ext _ _ (λ p. has_and a b p ∙ implied (has a p) (has b p) (h p))

-- a bit of a that is none of b
pub not_sub : (a b : ℕ) → (bit_and a b ≡ a → ⊥) → (p : ℕ) × (has a p ≡ true) × (has b p ≡ false)
not_sub a b h = show (some_bit (a - bit_and a b) (λ z. h (omega (arith, z, and_le_l a b))))
  where
    show : (p : ℕ) × (has (a - bit_and a b) p ≡ true) → (p : ℕ) × (has a p ≡ true) × (has b p ≡ false)
    show r =
        let e = (and-eq-true_iff (has a r.0) (not (has b r.0))).0 (sym (has_minus a b r.0) ∙ r.1) in
        (r.0, e.0, not-true (has b r.0) e.1)

pub disjoint_of : (a b : ℕ) → bit_and a b ≡ 0 → Disjoint a b
disjoint_of a b e p h = go (has b p) refl
  where
    go : (t : Bool) → has b p ≡ t → has b p ≡ false
    go true f = absurd (false≢true (sym (has_none p) ∙ ap (λ (x : ℕ). has x p) (sym e) ∙ has_and a b p ∙ ap₂ ◌&&◌ h f))
    go false f = f

pub of_disjoint : (a b : ℕ) → Disjoint a b → bit_and a b ≡ 0
of_disjoint a b h = no_bits _ (λ p. has_and a b p ∙ denied (has a p) (has b p) (h p))

-- a bit of both
pub not_disjoint : (a b : ℕ) → (bit_and a b ≡ 0 → ⊥) → (p : ℕ) × (has a p ≡ true) × (has b p ≡ true)
not_disjoint a b h = show (some_bit (bit_and a b) h)
  where
    show : (p : ℕ) × (has (bit_and a b) p ≡ true) → (p : ℕ) × (has a p ≡ true) × (has b p ≡ true)
    show r = let e = (and-eq-true_iff (has a r.0) (has b r.0)).0 (sym (has_and a b r.0) ∙ r.1) in (r.0, e.0, e.1)

-- what the machine's complement does: a & !k, in n bits
pub and_not : (n a k : ℕ) → a < 2 ^ n → k < 2 ^ n → bit_and a ((2 ^ n - 1) - k) ≡ a - bit_and a k
and_not n a k ha hk =
    ext _ _ (λ p.
    has_and a ((2 ^ n - 1) - k) p ∙ ap (λ (t : Bool). has a p && t) (has_not n k p hk)
    ∙ drop p (has a p) refl ∙ sym (has_minus a k p))
  where
    drop : (p : ℕ) (t : Bool) → has a p ≡ t → (has a p && (ltb p n && not (has k p))) ≡ (has a p && not (has k p))
    drop p true e = rw (e, lt-ltb p n (has_below ha e))
    drop p false e = rw e

-- ---- two masks tested at once

-- a union is empty if both parts are
pub or_none : (a b : ℕ) → eqb (bit_or a b) 0 ≡ (eqb a 0 && eqb b 0)
or_none a b =
    iff_eq _ _
    (λ e.
    let z : bit_or a b ≡ 0 = eqb-true (bit_or a b) 0 e in
    ap₂ ◌&&◌ (eq-eqb a 0 (omega (arith, or_add_and a b, and_le_r a b))) (eq-eqb b 0 (omega (arith, or_add_and a b, and_le_l a b))))
    (λ e.
    let h : (eqb a 0 ≡ true) × (eqb b 0 ≡ true) = (and-eq-true_iff (eqb a 0) (eqb b 0)).0 e in
    eq-eqb (bit_or a b) 0 (omega (arith, or_add_and a b, eqb-true a 0 h.0, eqb-true b 0 h.1)))

-- nothing of a lies outside k
pub outside_none : (n a k : ℕ) → a < 2 ^ n → k < 2 ^ n → eqb (bit_and a ((2 ^ n - 1) - k)) 0 ≡ eqb (bit_and a k) a
outside_none n a k ha hk =
    ap (λ (x : ℕ). eqb x 0) (and_not n a k ha hk)
    ∙ iff_eq _ _ (λ e. eq-eqb (bit_and a k) a (omega (arith, eqb-true (a - bit_and a k) 0 e, and_le_l a k)))
    (λ e. eq-eqb (a - bit_and a k) 0 (omega (arith, eqb-true (bit_and a k) a e)))
