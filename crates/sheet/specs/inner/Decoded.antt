-- What was read of a sheet, in its slots and its packed array, as a statement, and the judgement that goes with it.
use Rattle.std.specs.Prelude.{◌≡◌, List, ℕ, ◌≤◌, length, take, Result, Ok, Err}
use Rattle.sheet.specs.inner.Widths.{packed_length}
use Rattle.sheet.specs.declared.Fault.{Fault}
use Rattle.sheet.specs.declared.Plan.{Plan}
use Rattle.sheet.specs.declared.Sheet.{Sheet}
use Rattle.sheet.specs.Lists.{pad}
use Rattle.sheet.specs.Problem.{Problem, Statement}
use Rattle.sheet.specs.Format.{Judgement, accepted, refused}
use Rattle.sheet.specs.Encoding.{ProperStatement}
use Rattle.sheet.specs.inner.Packed.{sets_in, clauses_at, actions_at, ors_in, oneofs_in, goal_in, moves_in}

-- a plan in its slots, those after it 0, and out of them
unfoldable pub plan_of : List ℕ → Plan
plan_of ks = record { count = length ks; numbers = pad 64 0 ks }

unfoldable pub plan_in : Plan → List ℕ
plan_in p = take p.count p.numbers

-- ---- a sheet with the packed array of its clauses, its goal and its moves
unfoldable pub problem_in : Sheet → List ℕ → Problem
problem_in x packed =
    record {
      n = x.n;
      known = x.known;
      ors = clauses_at x.ors (ors_in packed);
      oneofs = clauses_at x.oneofs (oneofs_in packed);
      actions = actions_at x.moves (moves_in packed);
      goal = sets_in (goal_in packed);
    }

unfoldable pub statement_in : Sheet → List ℕ → Statement
statement_in x packed = record { problem = problem_in x packed; plan = plan_in x.plan }

-- the judgement by the result of `decode`
unfoldable pub judgement_in : Result Sheet Fault → List ℕ → Judgement
judgement_in (Ok x) packed = accepted (statement_in x packed)
judgement_in (Err at) packed = refused at.number at.position

-- a sheet that was read and accepted
pub record Filled (x : Sheet) (packed : List ℕ) : Type 0 where
  pub long : length packed ≡ packed_length
  pub plan_most : x.plan.count ≤ 64
  pub proper : ProperStatement (statement_in x packed)
