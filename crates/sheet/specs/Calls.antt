-- The call `judge`, as a function of the bytes (document 01, "The calls are").
use Rattle.std.specs.Prelude.{List, ℕ, Result, Ok, Err}
use Rattle.sheet.specs.declared.Fault.{Fault}
use Rattle.sheet.specs.Format.{Judgement, accepted, refused, sheet_of}

-- an answer: accepted, or refused with document 01's number and position
abbrev pub Answer : Type 0
Answer = Result Unit Fault

pattern abbrev pub Accepted : Answer
Accepted = Ok tt

abbrev pub Refused : ℕ → ℕ → Answer
Refused number position = Err (record { number = number; position = position })

-- each case of an answer with document 01's number and position; an accepted call has neither, and counts as 0 at 0
unfoldable pub number_of : Answer → ℕ
number_of Accepted = 0
number_of (Err fault) = fault.number

unfoldable pub position_of : Answer → ℕ
position_of Accepted = 0
position_of (Err fault) = fault.position

unfoldable pub answer_of : Judgement → Answer
answer_of (accepted x) = Accepted
answer_of (refused number position) = Refused number position

-- judge a sheet
unfoldable pub judge_of : List ℕ → Answer
judge_of s = answer_of (sheet_of s)
