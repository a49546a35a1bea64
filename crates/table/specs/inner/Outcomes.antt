-- What a start or a step into a list gives, as the outcome that the calls speak of.
use Rattle.std.specs.Prelude.{◌≡◌, List, ℕ, Result, Ok, Err}
use Rattle.sheet.specs.declared.Literals.{Literals}
use Rattle.sheet.specs.declared.Fault.{Fault}
use Rattle.table.specs.Minimal.{Outcome}

-- what came of a start or a step, with the list it was put in: a table, or a refusal by its number at position 0
abbrev pub outcome_of : Result Unit Fault → List Literals → Outcome
outcome_of (Ok done) us = Outcome.table us
outcome_of (Err fault) us = Outcome.refused fault.number

abbrev pub position_in : Result Unit Fault → ℕ
position_in (Ok done) = 0
position_in (Err fault) = fault.position

pub record Came (r : Result Unit Fault) (us : List Literals) (o : Outcome) : Type 0 where
  pub outcome : outcome_of r us ≡ o
  pub position : position_in r ≡ 0
