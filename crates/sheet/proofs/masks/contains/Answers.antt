-- `sheet::masks::contains` meets its contract: a shift and a mask of one bit read the bit. Assumes nothing.
use mathlib.Core.Path.{◌≡◌, sym, ap}
use mathlib.Core.Bool.{Bool, true, false}
use Prim.Native.Nat.{ℕ, ◌/◌, ◌%◌, ◌^◌, ◌<◌, ◌≤◌}
use native.Mathlib.Omega.{arith}
use lib.Bits.{bit_and, and_mask}
use lib.Dec.{eqb}
use borrow.Author.Tests.{eq-eqb, ne_eqb}
use Rattle.sheet.specs.declared.Literals.{Literals}
use Rattle.sheet.specs.Literals.{has, mem, sign, contains}
use Rattle.sheet.proofs.laws.literals.MaskBits.{has_above}
use Rattle.sheet.proofs.masks.contains.Goals as goal

-- past the masks there is no bit

far : (a : Literals) (l : ℕ) → a.trues < 2 ^ 32 → a.falses < 2 ^ 32 → 64 ≤ l → false ≡ contains a l
unfolding mem contains
far a l ht hf h = go (sign l)
  where
    place : 32 ≤ l / 2
    place = omega arith

    go : (s : Bool) → false ≡ mem a s (l / 2)
    go true = sym (has_above ht place)
    go false = sym (has_above hf place)

even : (a : Literals) (l : ℕ) → l % 2 ≡ 0 → eqb (bit_and (a.trues / 2 ^ (l / 2)) 1) 1 ≡ contains a l
unfolding has mem sign contains
even a l e = rw (eq-eqb (l % 2) 0 e) (ap (λ (x : ℕ). eqb x 1) (and_mask (a.trues / 2 ^ (l / 2)) 1))

odd : (a : Literals) (l : ℕ) → (l % 2 ≡ 0 → ⊥) → eqb (bit_and (a.falses / 2 ^ (l / 2)) 1) 1 ≡ contains a l
unfolding has mem sign contains
odd a l e = rw (ne_eqb (l % 2) 0 e) (ap (λ (x : ℕ). eqb x 1) (and_mask (a.falses / 2 ^ (l / 2)) 1))

pub returns-then-l-ge64 : goal.returns-then-l-ge64
returns-then-l-ge64 c = far _ _ (omega arith) (omega arith) c.if-l-ge64.true

pub returns-then-l-eq0 : goal.returns-then-l-eq0
returns-then-l-eq0 c = even _ _ c.if-l-eq0.true

pub returns-else-l-eq0 : goal.returns-else-l-eq0
returns-else-l-eq0 c = odd _ _ c.if-l-eq0.false
