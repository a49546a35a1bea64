-- Implicates and prime implicates of a set of worlds (source document 000, section 6), said without any algorithm.
use Rattle.std.specs.Prelude.{◌≡◌, ◌↔◌, ℕ, ◌^◌, ◌<◌, T}
use mathlib.Core.List.{List, Memᴰ}
use Rattle.sheet.specs.declared.Literals.{Literals}
use Rattle.sheet.specs.Literals.{within, state, meets, Proper}

-- a clause without complementary literals, over the propositions below n, that holds in all the worlds
pub record Implicate (n : ℕ) (worlds : ℕ → Type 0) (c : Literals) : Type 0 where
  pub proper : Proper n c
  pub sure : (w : ℕ) → w < 2 ^ n → worlds w → T (meets c (state n w))

-- one that has no shorter such clause within
pub record Prime (n : ℕ) (worlds : ℕ → Type 0) (c : Literals) : Type 0 where
  pub implicate : Implicate n worlds c
  pub least : (d : Literals) → Implicate n worlds d → T (within d c) → d ≡ c

-- "the table's set of prime implicates": the members of s are exactly the prime implicates of the worlds
abbrev pub Exactly : ℕ → (ℕ → Type 0) → List Literals → Type 0
Exactly n worlds s = (c : Literals) → Memᴰ c s ↔ Prime n worlds c
