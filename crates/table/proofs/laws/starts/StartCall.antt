-- The call `start` from its parts: on bytes, and by value. For `start_lent` and `start`. Assumes nothing.
use Prim.Native.Nat.{ℕ}
use mathlib.Core.Path.{◌≡◌, sym, ap, ◌∙◌}
use mathlib.Core.List.{List, []}
use Rattle.std.specs.Prelude.{Result, Ok, Err}
use Rattle.sheet.specs.Calls.{Refused}
use Rattle.sheet.specs.declared.Fault.{Fault}
use Rattle.sheet.specs.declared.Literals.{Literals}
use Rattle.sheet.specs.Format.{refused as faulty, sheet_of}
use Rattle.table.specs.Minimal.{Outcome}
use Rattle.table.specs.Entries.{table_of}
use Rattle.table.specs.inner.Outcomes.{Came}
use Rattle.table.specs.inner.Starts.{start_answer}
use Rattle.table.specs.Calls.{or_given, start_of}

pub start_fault : (s : List ℕ) (k p : ℕ) (us : List Literals) → sheet_of s ≡ faulty k p
    → start_answer (Err (record { number = k; position = p })) us ≡ start_of (sheet_of s)
unfolding start_of
start_fault s k p us e = sym (ap start_of e)

pub start_outcome : (r : Result Unit Fault) (us : List Literals) (o : Outcome) → Came r us o → start_answer r us ≡ or_given (table_of []) o
unfolding or_given
start_outcome (Ok done) us o w = ap (or_given (table_of [])) w.outcome
start_outcome (Err fault) us o w = (λ j. record { answer = Refused fault.number (w.position j); table = table_of [] })
    ∙ ap (or_given (table_of [])) w.outcome
