-- The cycle {try_move, try_plans}: where `left` moves are left, `try_plans` has the measure 2 · left and `try_move` 2 · left - 1.
-- The loop's invariant: no move below index has an answer, and what the memory says is so.
use Rattle.std.proofs.Common.{◌*◌, ◌-◌}
use Rattle.plan.proofs.laws.searches.TriedPlans.{Trying}
use Rattle.plan.proofs.searches.+try_move_try_plans.Given as goal

abbrev pub decreases-try_move : goal.decreases-try_move
decreases-try_move l = 2 * l.depth.left - 1

abbrev pub decreases-try_plans : goal.decreases-try_plans
decreases-try_plans l = 2 * l.depth.left

abbrev pub invariant-try_plans-loop-index : goal.invariant-try_plans-loop-index
invariant-try_plans-loop-index l = Trying l.packed l.depth l.entries l.memory l.index
