-- `sheet::masks::next` meets its contract: an even place begins a proposition, an odd one is its false literal. Assumes nothing.
use mathlib.Core.Path.{◌≡◌, sym, ap, ◌∙◌}
use Prim.Native.Nat.{ℕ, ◌+◌, ◌*◌, ◌/◌, ◌%◌}
use native.Mathlib.Omega.{arith}
use Rattle.sheet.specs.declared.Literals.{Literals}
use Rattle.sheet.specs.inner.Masks as L
use Rattle.sheet.proofs.laws.literals.LiteralBytes.{next_end, next_here, next_step}
use Rattle.sheet.proofs.masks.next.Goals as goal

odd : (a : Literals) (l : ℕ) → (l % 2 ≡ 0 → ⊥) → L.next a (2 * (l / 2 + 1)) ≡ L.next a (l + 1)
odd a l e = let q : 2 * (l / 2 + 1) ≡ l + 1 = omega arith in ap (L.next a) q

pub returns-then-from-ge64 : goal.returns-then-from-ge64
returns-then-from-ge64 c = sym (next_end _ _ c.if-from-ge64.true)

pub returns-then-contains : goal.returns-then-contains
returns-then-contains c = sym (next_here _ _ c.if-from-ge64.false (sym c.contains.ensures ∙ c.if-contains.true))

pub returns : goal.returns
returns c =
    c.lowest-2.ensures ∙ odd _ _ c.if-from-eq0.false
    ∙ sym (next_step _ _ c.if-from-ge64.false (sym c.contains.ensures ∙ c.if-contains.false))
