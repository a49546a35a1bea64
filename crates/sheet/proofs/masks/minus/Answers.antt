-- `sheet::masks::minus` meets its contract: the machine's `a & !b` takes from a what it shares with b. Assumes nothing.
use mathlib.Core.Path.{◌≡◌}
use Prim.Native.Nat.{◌-◌, ◌^◌, ◌<◌}
use native.Mathlib.Omega.{arith}
use lib.Bits.{bit_and}
use Rattle.sheet.specs.declared.Literals.{Literals}
use Rattle.sheet.specs.inner.Masks.{minus}
use Rattle.sheet.proofs.laws.literals.MaskBits.{and_not}
use Rattle.sheet.proofs.masks.minus.Goals as goal

lacked : (a b : Literals) → a.trues < 2 ^ 32 → a.falses < 2 ^ 32 → b.trues < 2 ^ 32 → b.falses < 2 ^ 32
    → ◌≡◌ {A = Literals}
    (record { trues = bit_and a.trues ((2 ^ 32 - 1) - b.trues); falses = bit_and a.falses ((2 ^ 32 - 1) - b.falses) })
    (minus a b)
unfolding minus
lacked a b ht hf bt bf = rw (and_not 32 a.trues b.trues ht bt, and_not 32 a.falses b.falses hf bf)

pub returns : goal.returns
returns c = lacked _ _ (omega arith) (omega arith) (omega arith) (omega arith)
