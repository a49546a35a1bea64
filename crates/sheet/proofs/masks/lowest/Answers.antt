-- `sheet::masks::lowest` meets its contract: the lowest set bit of both masks together is the lowest named proposition. Assumes nothing.
use mathlib.Core.Path.{◌≡◌, sym, ◌∙◌}
use Prim.Native.Nat.{ℕ, ◌*◌, ◌≤◌}
use native.Mathlib.Omega.{arith}
use Rattle.sheet.specs.declared.Literals.{Literals}
use Rattle.sheet.specs.inner.Masks.{next}
use Rattle.sheet.proofs.laws.literals.LiteralBytes.{next_end}
use Rattle.sheet.proofs.laws.literals.LowestLiteral.{none_named, first_true, first_false}
use Rattle.sheet.proofs.masks.lowest.Goals as goal

past : (a : Literals) (p : ℕ) → p ≤ 32 → 32 ≤ p → 64 ≡ next a (2 * p)
past a p h i =
    let e : 64 ≡ 2 * p = omega arith in
    e ∙ sym (next_end a (2 * p) (omega arith))

pub returns-then-p-ge-PROPOSITIONS : goal.returns-then-p-ge-PROPOSITIONS
returns-then-p-ge-PROPOSITIONS c = past _ _ c.requires c.if-p-ge-PROPOSITIONS.true

pub returns-then-named-eq0 : goal.returns-then-named-eq0
returns-then-named-eq0 c = none_named _ _ c.requires c.if-named-eq0.true

pub returns-then-contains : goal.returns-then-contains
returns-then-contains c =
    first_true _ _ (omega arith) (omega arith) c.if-named-eq0.false (sym c.contains.ensures ∙ c.if-contains.true)

pub returns : goal.returns
returns c =
    first_false _ _ (omega arith) (omega arith) c.if-named-eq0.false (sym c.contains.ensures ∙ c.if-contains.false)
