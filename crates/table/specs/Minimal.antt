-- Tables as lists of entries (source document 001, Definition 1: minimal DNF-states), and how a candidate is put.
-- An entry is a partial state: it stands for every world that has its literals.
use Rattle.std.specs.Prelude.{◌≡◌, Bool, true, false, not, ◌&&◌, ◌||◌, ℕ, ◌≤◌, T, eqb, leb, length}
use mathlib.Core.List.{List, [], ◌∷◌, ◌++◌, Memᴰ}
use Rattle.std.proofs.Math.Option.{Option, none, some}
use Rattle.sheet.specs.declared.Literals.{Literals}
use Rattle.sheet.specs.Literals.{within, consistent, below, state, Proper}
use Rattle.sheet.specs.Lists.{Any, All, any_of, all_of, keep}
use Rattle.table.specs.Worlds.{and_then}

-- the world w is among those that the table t stands for
abbrev pub In : ℕ → List Literals → ℕ → Type 0
In n t w = Any (λ e. T (within e (state n w))) t

-- no entry's literals all lie in another's
abbrev pub Antichain : List Literals → Type 0
Antichain [] = Unit {0}
Antichain (e ∷ t) = All (λ f. T (not (within e f)) × T (not (within f e))) t × Antichain t

-- a table as document 01 describes it: 1 to cap entries, each proper, none within another
pub record Described (cap n : ℕ) (t : List Literals) : Type 0 where
  pub least : 1 ≤ length t
  pub most : length t ≤ cap
  pub proper : All (Proper n) t
  pub apart : Antichain t

-- ---- the same as a test
unfoldable pub proper : ℕ → Literals → Bool
proper n e = consistent e && below n e

unfoldable pub apart : Literals → List Literals → Bool
apart e t = all_of (λ f. not (within e f || within f e)) t

unfoldable pub antichain : List Literals → Bool
antichain [] = true
antichain (e ∷ t) = apart e t && antichain t

unfoldable pub described : ℕ → ℕ → List Literals → Bool
described cap n t = leb 1 (length t) && (leb (length t) cap && (all_of (proper n) t && antichain t))

-- ---- putting a candidate (document 01, "Putting a candidate"); none: the table is full
-- at the end, unless the capacity is still taken
abbrev pub put_last : Bool → List Literals → Literals → Option (List Literals)
put_last true t c = none
put_last false t c = some (t ++ (c ∷ []))

-- dropped if some entry lies in it; otherwise the entries that contain it are removed
abbrev pub put_new : Bool → ℕ → List Literals → Literals → Option (List Literals)
put_new true cap t c = some t
put_new false cap t c =
    let rest = keep (λ e. not (within c e)) t in
    put_last (eqb (length rest) cap) rest c

unfoldable pub put : ℕ → List Literals → Literals → Option (List Literals)
put cap t c = put_new (any_of (λ e. within e c) t) cap t c

-- candidates put one after the other
abbrev pub put_all : ℕ → List Literals → List Literals → Option (List Literals)
put_all cap [] t = some t
put_all cap (c ∷ cs) t = and_then (put cap t c) (λ u. put_all cap cs u)

-- d is in min of the candidates cs (Definition 1): it is one of them, and no other lies in it
abbrev pub Least : List Literals → Literals → Type 0
Least cs d = Memᴰ d cs × ((c : Literals) → Memᴰ c cs → T (within c d) → c ≡ d)

-- ---- a table, or a refusal by its number
pub data Outcome : Type 0 where
  refused : ℕ → Outcome
  table : List Literals → Outcome
