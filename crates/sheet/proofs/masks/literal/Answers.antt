-- `sheet::masks::literal` meets its contract: below 32 places the shift loses nothing. Assumes nothing.
use mathlib.Core.Path.{◌≡◌, ap, ◌∙◌}
use Prim.Native.Nat.{ℕ, ◌*◌, ◌/◌, ◌%◌, ◌^◌, ◌<◌}
use native.Mathlib.Nat.{one-mul, mod-eq_of_lt}
use native.Mathlib.Omega.{arith}
use lib.Pow.{pow-lt}
use borrow.Author.Tests.{eq-eqb, ne_eqb}
use Rattle.sheet.specs.declared.Literals.{Literals}
use Rattle.sheet.specs.Literals.{literal, single, sign}
use Rattle.sheet.proofs.masks.literal.Goals as goal

shifted : (p : ℕ) → p < 32 → (1 * 2 ^ p) % 2 ^ 32 ≡ 2 ^ p
shifted p h = ap (λ (x : ℕ). x % 2 ^ 32) (one-mul (2 ^ p)) ∙ mod-eq_of_lt (pow-lt h)

even : (l : ℕ) → l < 64 → l % 2 ≡ 0 → ◌≡◌ {A = Literals} (record { trues = (1 * 2 ^ (l / 2)) % 2 ^ 32; falses = 0 }) (literal l)
unfolding literal single sign
even l h e = rw (eq-eqb (l % 2) 0 e, shifted (l / 2) (omega arith))

odd : (l : ℕ) → l < 64 → (l % 2 ≡ 0 → ⊥) → ◌≡◌ {A = Literals} (record { trues = 0; falses = (1 * 2 ^ (l / 2)) % 2 ^ 32 }) (literal l)
unfolding literal single sign
odd l h e = rw (ne_eqb (l % 2) 0 e, shifted (l / 2) (omega arith))

pub returns-then-l-eq0 : goal.returns-then-l-eq0
returns-then-l-eq0 c = even _ c.requires c.if-l-eq0.true

pub returns-else-l-eq0 : goal.returns-else-l-eq0
returns-else-l-eq0 c = odd _ c.requires c.if-l-eq0.false
