-- `sheet::masks::clash` meets its contract: it tests both masks at once. Assumes nothing.
use mathlib.Core.Path.{◌≡◌, ap}
use mathlib.Core.Bool.{not}
use lib.Bits.{bit_and, bit_or}
use lib.Dec.{eqb}
use Rattle.sheet.specs.declared.Literals.{Literals}
use Rattle.sheet.specs.Literals.{clash}
use Rattle.sheet.proofs.laws.literals.MaskBits.{or_none}
use Rattle.sheet.proofs.masks.clash.Goals as goal

at_once : (a b : Literals) → not (eqb (bit_or (bit_and a.trues b.falses) (bit_and a.falses b.trues)) 0) ≡ clash a b
unfolding clash
at_once a b = ap not (or_none (bit_and a.trues b.falses) (bit_and a.falses b.trues))

pub returns : goal.returns
returns c = at_once _ _
