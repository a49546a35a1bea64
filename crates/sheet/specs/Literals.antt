-- Sets of literals as two masks, bit p for proposition p. A literal is a sign s (true: p holds) and a proposition p.
use Rattle.std.specs.Prelude.{Bool, true, false, not, cond, ◌&&◌, List, [], ◌∷◌, ℕ, zero, suc, ◌-◌, ◌/◌, ◌%◌, ◌^◌, ◌<◌, T, eqb, ltb}
use Rattle.std.specs.Int.Bits.{bit_and, bit_or}
use Rattle.sheet.specs.declared.Literals.{Literals}

-- bit p of the mask m
unfoldable pub has : ℕ → ℕ → Bool
has m p = eqb (m / 2 ^ p % 2) 1

-- no literal
unfoldable pub no_literal : Literals
no_literal = record { trues = 0; falses = 0 }

-- the mask of one sign
abbrev pub side : Literals → Bool → ℕ
side a true = a.trues
side a false = a.falses

-- the literal of sign s at p is in a
unfoldable pub mem : Literals → Bool → ℕ → Bool
mem a s p = has (side a s) p

-- all literals of a lie in b
unfoldable pub within : Literals → Literals → Bool
within a b = eqb (bit_and a.trues b.trues) a.trues && eqb (bit_and a.falses b.falses) a.falses

-- some literal of a has its complement in b
unfoldable pub clash : Literals → Literals → Bool
clash a b = not (eqb (bit_and a.trues b.falses) 0 && eqb (bit_and a.falses b.trues) 0)

-- no literal with its complement
unfoldable pub consistent : Literals → Bool
consistent a = eqb (bit_and a.trues a.falses) 0

-- the union
unfoldable pub join : Literals → Literals → Literals
join a b = record { trues = bit_or a.trues b.trues; falses = bit_or a.falses b.falses }

-- the complement of each literal
unfoldable pub flip : Literals → Literals
flip a = record { trues = a.falses; falses = a.trues }

-- the results r replace their complements in a
unfoldable pub replace : Literals → Literals → Literals
replace a r =
    record {
      trues = bit_or (a.trues - bit_and a.trues r.falses) r.trues;
      falses = bit_or (a.falses - bit_and a.falses r.trues) r.falses;
    }

-- the propositions that a names
unfoldable pub names : Literals → ℕ
names a = bit_or a.trues a.falses

-- the set of one literal
unfoldable pub single : Bool → ℕ → Literals
single true p = record { trues = 2 ^ p; falses = 0 }
single false p = record { trues = 0; falses = 2 ^ p }

-- a literal byte: 2p says that p is true, 2p + 1 that p is false
unfoldable pub sign : ℕ → Bool
sign l = eqb (l % 2) 0

unfoldable pub literal : ℕ → Literals
literal l = single (sign l) (l / 2)

unfoldable pub contains : Literals → ℕ → Bool
contains a l = mem a (sign l) (l / 2)

-- the world w < 2 ^ n as the complete set of its literals
unfoldable pub state : ℕ → ℕ → Literals
state n w = record { trues = w; falses = (2 ^ n - 1) - w }

-- some literal of the clause c lies in d
unfoldable pub meets : Literals → Literals → Bool
meets c d = clash (flip c) d

-- every proposition named in a is below n
unfoldable pub below : ℕ → Literals → Bool
below n a = ltb a.trues (2 ^ n) && ltb a.falses (2 ^ n)

-- no literal with its complement, no proposition at n or above
pub record Proper (n : ℕ) (a : Literals) : Type 0 where
  pub steady : T (consistent a)
  pub trues_below : a.trues < 2 ^ n
  pub falses_below : a.falses < 2 ^ n

-- the literal bytes of a, ascending, among the k bytes from l on
unfoldable pub members_from : ℕ → Literals → ℕ → List ℕ
members_from zero a l = []
members_from (suc k) a l = cond (contains a l) (l ∷ members_from k a (suc l)) (members_from k a (suc l))

-- the literal bytes of a from l on, ascending
unfoldable pub members : Literals → ℕ → List ℕ
members a l = members_from (64 - l) a l
