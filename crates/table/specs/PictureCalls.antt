-- The call `picture` as a function of what it is given (document 01, "Numbers and their order"): a fault of the sheet; 22; 21; 23 for the
-- buffer's own length. Refused, it gives 0 clauses and leaves every byte of the buffer as it was.
use Rattle.std.specs.Prelude.{Bool, cond, List, ◌++◌, ℕ, ◌+◌, ◌*◌, ltb, length, drop}
use Rattle.std.proofs.Math.Option.{Option, none, some}
use Rattle.sheet.specs.Limits.{most_entries}
use Rattle.sheet.specs.declared.Literals.{Literals}
use Rattle.sheet.specs.Calls.{Accepted, Refused}
use Rattle.sheet.specs.Format.{Judgement, accepted, refused}
use Rattle.table.specs.declared.Table.{Table}
use Rattle.table.specs.declared.PictureAnswer.{PictureAnswer}
use Rattle.table.specs.Minimal.{described}
use Rattle.table.specs.Picture.{picture, picture_bytes}
use Rattle.table.specs.Entries.{entries}

unfoldable pub refusal : ℕ → ℕ → PictureAnswer
refusal number position = record { answer = Refused number position; clauses = 0 }

-- the bytes of s do not fit into len
unfoldable pub too_long : List Literals → ℕ → Bool
too_long s len = ltb len (2 + 8 * length s)

-- ---- what the call gives for a buffer of len bytes
unfoldable pub given : Option (List Literals) → ℕ → PictureAnswer
given none len = refusal 21 0
given (some s) len = cond (too_long s len) (refusal 23 0) (record { answer = Accepted; clauses = length s })

unfoldable pub picture_of : Judgement → Table → ℕ → PictureAnswer
picture_of (refused number position) t len = refusal number position
picture_of (accepted x) t len = cond (described most_entries x.problem.n (entries t)) (given (picture (entries t)) len) (refusal 22 0)

-- ---- the buffer after the call: the picture's bytes, later bytes kept
unfoldable pub written : Option (List Literals) → List ℕ → List ℕ
written none buffer = buffer
written (some s) buffer = cond (too_long s (length buffer)) buffer (picture_bytes s ++ drop (2 + 8 * length s) buffer)

unfoldable pub buffer_of : Judgement → Table → List ℕ → List ℕ
buffer_of (refused number position) t buffer = buffer
buffer_of (accepted x) t buffer = cond (described most_entries x.problem.n (entries t)) (written (picture (entries t)) buffer) buffer
