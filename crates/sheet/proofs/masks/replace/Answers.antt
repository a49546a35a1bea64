-- `sheet::masks::replace` meets its contract: the machine's `a & !k` takes from a what it shares with k. Assumes nothing.
use mathlib.Core.Path.{◌≡◌}
use Prim.Native.Nat.{◌-◌, ◌^◌, ◌<◌}
use native.Mathlib.Omega.{arith}
use lib.Bits.{bit_and, bit_or}
use Rattle.sheet.specs.declared.Literals.{Literals}
use Rattle.sheet.specs.Literals.{replace}
use Rattle.sheet.proofs.laws.literals.MaskBits.{and_not}
use Rattle.sheet.proofs.masks.replace.Goals as goal

replaced : (a r : Literals) → a.trues < 2 ^ 32 → a.falses < 2 ^ 32 → r.trues < 2 ^ 32 → r.falses < 2 ^ 32
    → ◌≡◌ {A = Literals}
    (record {
      trues = bit_or (bit_and a.trues ((2 ^ 32 - 1) - r.falses)) r.trues;
      falses = bit_or (bit_and a.falses ((2 ^ 32 - 1) - r.trues)) r.falses;
    })
    (replace a r)
unfolding replace
replaced a r ht hf rt rf = rw (and_not 32 a.trues r.falses ht rf, and_not 32 a.falses r.trues hf rt)

pub returns : goal.returns
returns c = replaced _ _ (omega arith) (omega arith) (omega arith) (omega arith)
