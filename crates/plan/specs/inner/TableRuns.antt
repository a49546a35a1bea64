-- A run by the lists of its tables: T_k, the table after k moves of a plan; what the step to place k + 1 gave; the moves taken.
use Rattle.std.specs.Prelude.{◌≡◌, List, [], ◌∷◌, ℕ, zero, suc, drop}
use Rattle.std.proofs.Math.Option.{Option, none, some}
use Rattle.sheet.specs.declared.Literals.{Literals}
use Rattle.sheet.specs.Problem.{Action}
use Rattle.table.specs.Minimal.{Outcome, refused, table}
use Rattle.table.specs.Step.{step_table}

abbrev pub then_table : Outcome → (List Literals → Option (List Literals)) → Option (List Literals)
then_table (refused number) next = none
then_table (table u) next = next u

-- T_k from T_0 = t; none if the plan is shorter, or a step before gave no table
abbrev pub table_at : ℕ → ℕ → List Action → List Literals → Option (List Literals)
table_at cap zero plan t = some t
table_at cap (suc k) [] t = none
table_at cap (suc k) (a ∷ plan) t = then_table (step_table cap a t) (λ u. table_at cap k plan u)

-- T_k exists and its step by the next move gives the number N
pub record Refuses (cap : ℕ) (plan : List Action) (t : List Literals) (k N : ℕ) : Type 0 where
  pub last : List Literals
  pub arrives : table_at cap k plan t ≡ some last
  pub move : Action
  pub later : List Action
  pub next : drop k plan ≡ move ∷ later
  pub gives : step_table cap move last ≡ refused N

-- ---- the moves taken: all of them for reached and short, those before the place for stopped and full
abbrev pub count_or : Outcome → (List Literals → ℕ) → ℕ
count_or (refused number) next = 0
count_or (table u) next = suc (next u)

abbrev pub moves_taken : ℕ → List Action → List Literals → ℕ
moves_taken cap [] t = 0
moves_taken cap (a ∷ plan) t = count_or (step_table cap a t) (λ u. moves_taken cap plan u)
