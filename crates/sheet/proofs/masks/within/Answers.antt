-- `sheet::masks::within` meets its contract: nothing of a lies outside b. Assumes nothing.
use mathlib.Core.Path.{◌≡◌, ap₂, ◌∙◌}
use mathlib.Core.Bool.{◌&&◌}
use Prim.Native.Nat.{◌-◌, ◌^◌, ◌<◌}
use native.Mathlib.Omega.{arith}
use lib.Bits.{bit_and, bit_or}
use lib.Dec.{eqb}
use Rattle.sheet.specs.declared.Literals.{Literals}
use Rattle.sheet.specs.Literals.{within}
use Rattle.sheet.proofs.laws.literals.MaskBits.{or_none, outside_none}
use Rattle.sheet.proofs.masks.within.Goals as goal

outside : (a b : Literals) → a.trues < 2 ^ 32 → a.falses < 2 ^ 32 → b.trues < 2 ^ 32 → b.falses < 2 ^ 32
    → eqb (bit_or (bit_and a.trues ((2 ^ 32 - 1) - b.trues)) (bit_and a.falses ((2 ^ 32 - 1) - b.falses))) 0 ≡ within a b
unfolding within
outside a b at af bt bf =
    or_none (bit_and a.trues ((2 ^ 32 - 1) - b.trues)) (bit_and a.falses ((2 ^ 32 - 1) - b.falses))
    ∙ ap₂ ◌&&◌ (outside_none 32 a.trues b.trues at bt) (outside_none 32 a.falses b.falses af bf)

pub returns : goal.returns
returns c = outside _ _ (omega arith) (omega arith) (omega arith) (omega arith)
