-- What the start takes and gives: clauses by kind, the alternatives but one, the answer with its list.
use Rattle.std.specs.Prelude.{cond, List, [], ◌∷◌, ℕ, ◌+◌, ◌*◌, ◌≤◌, eqb, length, Result, Ok, Err}
use Rattle.sheet.specs.Calls.{Accepted, Refused}
use Rattle.sheet.specs.declared.Fault.{Fault}
use Rattle.sheet.specs.declared.Literals.{Literals}
use Rattle.sheet.specs.Lists.{All}
use Rattle.sheet.specs.inner.Packed.{clauses_at}
use Rattle.table.specs.declared.TableAnswer.{TableAnswer}
use Rattle.table.specs.declared.starts.Kind.{Kind}
use Rattle.table.specs.declared.starts.Kind.TheVariants as kind
use Rattle.table.specs.Start.{Clause, or_of, one_of}
use Rattle.table.specs.Entries.{table_of}

-- the clause of a kind, by its alternatives
abbrev pub clause_of : Kind → List Literals → Clause
clause_of kind.Or = or_of
clause_of kind.OneOf = one_of

-- the list, whose first member stands at place `at`, without place `i`
abbrev pub others : ℕ → ℕ → List Literals → List Literals
others i at [] = []
others i at (x ∷ xs) = cond (eqb at i) (others i (at + 1) xs) (x ∷ others i (at + 1) xs)

-- so many clauses, of at most 8 alternatives each
pub record ClausesFit (count : ℕ) (xs : List ℕ) : Type 0 where
  pub room : count * 17 ≤ length xs
  pub few : All (λ (c : List Literals). length c ≤ 8) (clauses_at count xs)

-- what a start gave, with the list that it was put in; refused, a table without entries
abbrev pub start_answer : Result Unit Fault → List Literals → TableAnswer
start_answer (Ok done) us = record { answer = Accepted; table = table_of us }
start_answer (Err fault) us = record { answer = Refused fault.number fault.position; table = table_of [] }
