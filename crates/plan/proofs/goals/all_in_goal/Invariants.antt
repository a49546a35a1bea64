-- `plan::goals::all_in_goal` meets its contract. The invariant: the entries from i on decide. Assumes nothing.
use mathlib.Core.Path.{◌≡◌}
use lib.ListN.{drop}
use Rattle.sheet.specs.Lists.{all_of}
use Rattle.plan.specs.Run.{in_goal}
use Rattle.plan.proofs.goals.all_in_goal.Given as goal

abbrev pub invariant-loop-i : goal.invariant-loop-i
invariant-loop-i l = all_of (in_goal l.goal) l.entries ≡ all_of (in_goal l.goal) (drop l.i l.entries)
