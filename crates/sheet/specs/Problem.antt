-- A planning problem ⟨F, O, I, G⟩ (source document 000, section 2): the propositions F are the numbers below n, O are the
-- actions, I is given by the known literals, the or-clauses and the oneof-clauses, G is the goal.
use Rattle.std.specs.Prelude.{List, ℕ}
use Rattle.sheet.specs.declared.Literals.{Literals}
use Rattle.sheet.specs.declared.Effect.{Effect}

-- an action (document 01: a move): where its precondition holds, the result of each effect whose condition holds becomes true
pub record Action : Type 0 where
  pub precondition : Literals
  pub effects : List Effect

-- an or-clause or a oneof-clause is the list of its alternatives, an alternative holds if all its literals do;
-- a clause of the goal is a set of literals of which one must hold
pub record Problem : Type 0 where
  pub n : ℕ
  pub known : Literals
  pub ors : List (List Literals)
  pub oneofs : List (List Literals)
  pub actions : List Action
  pub goal : List Literals

-- F and I alone: sections 1 to 4 of a sheet
pub record Facts : Type 0 where
  pub n : ℕ
  pub known : Literals
  pub ors : List (List Literals)
  pub oneofs : List (List Literals)

unfoldable pub problem_of : Facts → List Action → List Literals → Problem
problem_of f actions goal =
    record { n = f.n; known = f.known; ors = f.ors; oneofs = f.oneofs; actions = actions; goal = goal }

-- what a sheet says: a problem, and a plan as the numbers of its actions, counted from 0
pub record Statement : Type 0 where
  pub problem : Problem
  pub plan : List ℕ
