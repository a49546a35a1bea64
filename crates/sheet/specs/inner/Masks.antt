-- What masks.rt works out beside the operations of Literals: differences, the literal bytes of a set one after the other; and a byte by its
-- sign.
use Rattle.std.specs.Prelude.{Bool, true, false, cond, ℕ, zero, suc, ◌+◌, ◌-◌, ◌*◌}
use Rattle.std.specs.Int.Bits.{bit_and, bit_or}
use Rattle.sheet.specs.declared.Literals.{Literals}
use Rattle.sheet.specs.Literals.{contains}

-- the literals of a that are not in b
unfoldable pub minus : Literals → Literals → Literals
minus a b = record { trues = a.trues - bit_and a.trues b.trues; falses = a.falses - bit_and a.falses b.falses }

-- the literal byte of a sign and a proposition
unfoldable pub byte : Bool → ℕ → ℕ
byte true p = 2 * p
byte false p = 2 * p + 1

-- the world that w becomes by the results r
unfoldable pub overridden : ℕ → Literals → ℕ
overridden w r = bit_or (w - bit_and w r.falses) r.trues

-- the smallest literal byte of a from l on, among k bytes; l + k where there is none
unfoldable pub next_from : ℕ → Literals → ℕ → ℕ
next_from zero a l = l
next_from (suc k) a l = cond (contains a l) l (next_from k a (suc l))

-- the smallest literal byte of a from l on; 64 where there is none
unfoldable pub next : Literals → ℕ → ℕ
next a l = next_from (64 - l) a l
