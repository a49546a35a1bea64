-- `plan::goals::in_goal` meets its contract. The invariant: the clauses from i on decide. Assumes nothing.
use mathlib.Core.Path.{◌≡◌}
use lib.ListN.{drop}
use Rattle.sheet.specs.Literals.{meets}
use Rattle.sheet.specs.Lists.{all_of}
use Rattle.plan.proofs.goals.in_goal.Given as goal

abbrev pub invariant-loop-i : goal.invariant-loop-i
invariant-loop-i l = all_of (λ x. meets x l.d) l.goal ≡ all_of (λ x. meets x l.d) (drop l.i l.goal)
