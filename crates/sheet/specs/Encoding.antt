-- The statements that a sheet can make, with the ranges and list rules of document 01, and the bytes of each.
use Rattle.std.specs.Prelude.{List, [], ◌∷◌, ◌++◌, ℕ, ◌≤◌, ◌<◌, length}
use Rattle.sheet.specs.declared.Literals.{Literals}
use Rattle.sheet.specs.declared.Effect.{Effect}
use Rattle.sheet.specs.Literals as sets
use Rattle.sheet.specs.Literals.{Proper}
use Rattle.sheet.specs.Lists.{All, collect}
use Rattle.sheet.specs.Problem.{Action, Problem, Statement}

-- ---- what a sheet can say
-- low to high literals over n propositions, none with its complement
pub record ProperList (n low high : ℕ) (a : Literals) : Type 0 where
  pub proper : Proper n a
  pub least : low ≤ length (sets.members a 0)
  pub most : length (sets.members a 0) ≤ high

-- low to high items, each with P
pub record Counted {A : Type 0} (low high : ℕ) (P : A → Type 0) (xs : List A) : Type 0 where
  pub least : low ≤ length xs
  pub most : length xs ≤ high
  pub each : All P xs

abbrev pub ProperClause : ℕ → List Literals → Type 0
ProperClause n = Counted 1 8 (ProperList n 1 4)

pub record ProperEffect (n : ℕ) (e : Effect) : Type 0 where
  pub condition : ProperList n 0 4 e.condition
  pub result : ProperList n 1 4 e.result

pub record ProperAction (n : ℕ) (a : Action) : Type 0 where
  pub precondition : ProperList n 0 8 a.precondition
  pub effects : Counted 0 8 (ProperEffect n) a.effects

pub record ProperProblem (p : Problem) : Type 0 where
  pub n_least : 1 ≤ p.n
  pub n_most : p.n ≤ 32
  pub known : ProperList p.n 0 32 p.known
  pub ors : Counted 0 8 (ProperClause p.n) p.ors
  pub oneofs : Counted 0 8 (ProperClause p.n) p.oneofs
  pub actions : Counted 1 32 (ProperAction p.n) p.actions
  pub goal : Counted 0 8 (ProperList p.n 1 8) p.goal

-- a plan's numbers are those of moves on the sheet
pub record ProperStatement (x : Statement) : Type 0 where
  pub problem : ProperProblem x.problem
  pub plan : Counted 0 64 (λ b. b < length x.problem.actions) x.plan

-- ---- its bytes
-- the literals of a set, ascending, after their count
unfoldable pub set_bytes : Literals → List ℕ
set_bytes a = length (sets.members a 0) ∷ sets.members a 0

-- the items of a list after their count
unfoldable pub list_bytes : {A : Type 0} → (A → List ℕ) → List A → List ℕ
list_bytes bytes xs = length xs ∷ collect bytes xs

unfoldable pub effect_bytes : Effect → List ℕ
effect_bytes e = set_bytes e.condition ++ set_bytes e.result

unfoldable pub action_bytes : Action → List ℕ
action_bytes a = set_bytes a.precondition ++ list_bytes effect_bytes a.effects

unfoldable pub clauses_bytes : List (List Literals) → List ℕ
clauses_bytes = list_bytes (list_bytes set_bytes)

-- the seven sections
unfoldable pub encode : Statement → List ℕ
encode x =
    (x.problem.n ∷ [])
    ++ (set_bytes x.problem.known
    ++ (clauses_bytes x.problem.ors
    ++ (clauses_bytes x.problem.oneofs
    ++ (list_bytes action_bytes x.problem.actions
    ++ (list_bytes set_bytes x.problem.goal
    ++ list_bytes (λ b. b ∷ []) x.plan)))))
