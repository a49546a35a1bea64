-- `sheet::masks::below` meets its contract: the union of the masks has no bit from n on. Assumes nothing.
use mathlib.Core.Path.{◌≡◌, sym}
use mathlib.Core.Bool.{true, and-eq-true_iff}
use Prim.Native.Nat.{ℕ, ◌/◌, ◌^◌, ◌<◌, ◌≤◌}
use native.Mathlib.Nat.{div-eq_of_lt, div-lt_iff_lt-mul, lt_of_lt_of_le}
use native.Mathlib.Omega.{arith}
use lib.Bits.{bit_or, or_lt, or_add_and, and_le_l, and_le_r}
use lib.Pow.{pow_pos, pow_mono}
use lib.Dec.{eqb, ltb}
use borrow.Author.Tests.{eq-eqb, eqb-true, lt-ltb, ltb-true}
use Rattle.sheet.specs.declared.Literals.{Literals}
use Rattle.sheet.specs.Literals.{below}
use Rattle.sheet.proofs.laws.base.Bools.{iff_eq, and_true}
use Rattle.sheet.proofs.masks.below.Goals as goal

-- every mask is below 2 ^ 32

wide : (n : ℕ) (a : Literals) → a.trues < 2 ^ 32 → a.falses < 2 ^ 32 → 32 ≤ n → true ≡ below n a
unfolding below
wide n a ht hf h = sym (and_true _ _ (lt-ltb _ _ (lt_of_lt_of_le ht (pow_mono h))) (lt-ltb _ _ (lt_of_lt_of_le hf (pow_mono h))))

none_above : (x n : ℕ) → x / 2 ^ n ≡ 0 → x < 2 ^ n
none_above x n e = omega (arith, (div-lt_iff_lt-mul {x = x} {y = 1} (pow_pos n)).0 (omega arith))

narrow : (n : ℕ) (a : Literals) → eqb (bit_or a.trues a.falses / 2 ^ n) 0 ≡ below n a
unfolding below
narrow n a =
    iff_eq _ _
    (λ e.
    let h = none_above (bit_or a.trues a.falses) n (eqb-true _ 0 e) in
    and_true _ _ (lt-ltb a.trues (2 ^ n) (omega (arith, h, or_add_and a.trues a.falses, and_le_r a.trues a.falses)))
    (lt-ltb a.falses (2 ^ n) (omega (arith, h, or_add_and a.trues a.falses, and_le_l a.trues a.falses))))
    (λ e.
    eq-eqb _ 0
    (div-eq_of_lt
    (or_lt n a.trues a.falses (ltb-true _ _ ((and-eq-true_iff _ _).0 e).0)
    (ltb-true _ _ ((and-eq-true_iff (ltb a.trues (2 ^ n)) _).0 e).1))))

pub returns-then-n-ge-PROPOSITIONS : goal.returns-then-n-ge-PROPOSITIONS
returns-then-n-ge-PROPOSITIONS c = wide _ _ (omega arith) (omega arith) c.if-n-ge-PROPOSITIONS.true

pub returns : goal.returns
returns c = narrow _ _
