-- The clauses of a picture as the functions give them, their count as an answer, and the room for their bytes.
use Rattle.std.specs.Prelude.{List, ℕ, ◌+◌, ◌*◌, ◌≤◌, length, Option, Some, None, Result, Ok, Err}
use Rattle.std.proofs.Math.Option as maths
use Rattle.sheet.specs.Limits.{most_clauses}
use Rattle.sheet.specs.Calls.{Accepted}
use Rattle.sheet.specs.declared.Fault.{Fault}
use Rattle.sheet.specs.declared.Literals.{Literals}
use Rattle.table.specs.declared.PictureAnswer.{PictureAnswer}

-- the clauses as functions hand them out; none where they were too many
abbrev pub as_option : maths.Option (List Literals) → Option (List Literals)
as_option maths.none = None
as_option (maths.some s) = Some s

-- the bytes of count clauses fit into the buffer, and count into two bytes
pub record PictureRoom (count : ℕ) (buffer : List ℕ) : Type 0 where
  pub few : count ≤ most_clauses
  pub long : 2 + 8 * count ≤ length buffer

-- what a picture gave, by how many clauses it has; refused, no clause
abbrev pub picture_answer : Result ℕ Fault → PictureAnswer
picture_answer (Ok clauses) = record { answer = Accepted; clauses = clauses }
picture_answer (Err fault) = record { answer = Err fault; clauses = 0 }
