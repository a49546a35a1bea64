-- What a step of entries asks of its move and of them, and the answer that it then is.
use Rattle.std.specs.Prelude.{◌≡◌, List, ℕ, ◌<◌, ◌≤◌, length, Result, Ok, Err}
use Rattle.sheet.specs.inner.Widths.{most_propositions, most_moves, packed_length}
use Rattle.sheet.specs.Limits.{most_entries}
use Rattle.sheet.specs.Calls.{Accepted, Refused}
use Rattle.sheet.specs.declared.Fault.{Fault}
use Rattle.sheet.specs.declared.Literals.{Literals}
use Rattle.sheet.specs.Literals.{Proper}
use Rattle.sheet.specs.Lists.{All}
use Rattle.sheet.specs.Problem.{Action}
use Rattle.sheet.specs.Encoding.{ProperAction}
use Rattle.sheet.specs.inner.Packed.{moves_in, count_of, action_of}
use Rattle.table.specs.declared.Table.{Table}
use Rattle.table.specs.declared.TableAnswer.{TableAnswer}
use Rattle.table.specs.Entries.{table_of}

-- what a step of the table t gave, with the list that it was put in
abbrev pub step_answer : Table → Result Unit Fault → List Literals → TableAnswer
step_answer t (Ok done) us = record { answer = Accepted; table = table_of us }
step_answer t (Err fault) us = record { answer = Refused fault.number fault.position; table = t }

-- an action and entries over the same n propositions
pub record Fits (a : Action) (t : List Literals) : Type 0 where
  pub n : ℕ
  pub n_most : n ≤ most_propositions
  pub entries_most : length t ≤ most_entries
  pub action : ProperAction n a
  pub proper : All (Proper n) t

-- what a step asks of the move of a number in the packed array, of at most eight effects, and of the entries, over the same propositions
pub record MoveFits (packed : List ℕ) (index : ℕ) (t : List Literals) : Type 0 where
  pub long : length packed ≡ packed_length
  pub move_most : index < most_moves
  pub effects_few : count_of (moves_in packed) index ≤ 8
  pub fits : Fits (action_of (moves_in packed) index) t
