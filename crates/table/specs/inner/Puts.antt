-- Candidates put one after the other, and what came of it.
use Rattle.std.specs.Prelude.{◌≡◌, List, ℕ, Result, Ok, Err}
use Rattle.std.proofs.Math.Option.{Option, none, some}
use Rattle.sheet.specs.declared.Literals.{Literals}
use Rattle.table.specs.declared.slots.Full.{Full}
use Rattle.table.specs.Minimal.{put_all}

-- what was to be put gave o: the list us; or none, where there was no room
abbrev pub Grew : Option (List Literals) → Result Unit Full → List Literals → Type 0
Grew o (Ok done) us = o ≡ some us
Grew o (Err full) us = o ≡ none

-- the candidates cs were put after the list es, in cap slots; r and us are what came of it
pub record Puts (cap : ℕ) (cs es : List Literals) (r : Result Unit Full) (us : List Literals) : Type 0 where
  pub grew : Grew (put_all cap cs es) r us
