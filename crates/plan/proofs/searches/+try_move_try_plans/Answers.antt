-- The cycle {try_move, try_plans}: a move leads to a table whose plans are tried; the plans of a table are those of its moves in turn.
-- Assumes nothing.
use mathlib.Core.Path.{sym, ◌∙◌}
use native.Mathlib.Omega.{arith}
use Rattle.plan.proofs.laws.runs.CameTables.{came_table, came_refused}
use Rattle.plan.proofs.laws.runs.Moving.{move_fits}
use Rattle.plan.proofs.laws.searches.TriedMoves.{underway_after, tried_same, tried_ended, tried_not, tried_full, tried_stopped}
use Rattle.plan.proofs.laws.searches.TriedPlans.{tried_reached, tried_short, tried_recalled, trying_start, move_underway}
use Rattle.plan.proofs.laws.searches.TriedPlans.{trying_found, trying_next, tried_none, none_known}
use Rattle.plan.proofs.searches.+try_move_try_plans.Goals as goal

-- ---- try_move

pub try_move-step_at-requires-clause-fits : goal.try_move-step_at-requires-clause-fits
try_move-step_at-requires-clause-fits t c = move_fits c.requires.underway.can c.requires.below

pub try_move-returns-then-same-clause-answers : goal.try_move-returns-then-same-clause-answers
try_move-returns-then-same-clause-answers t c =
    tried_same c.requires (came_table c.step_at.ensures c.in-Ok.is c.entries-stepped.ensures) (c.same.ensures c.if-same.true) c.none.ensures

-- the search goes on from the table that the step gave
pub try_move-try_plans-r-requires : goal.try_move-try_plans-r-requires
try_move-try_plans-r-requires t c = (
  omega (arith, c.requires.some_left, c.decreases),
  underway_after c.requires (came_table c.step_at.ensures c.in-Ok.is c.entries-stepped.ensures),
)

pub try_move-returns-then-is_end-clause-answers : goal.try_move-returns-then-is_end-clause-answers
try_move-returns-then-is_end-clause-answers t c =
    tried_ended c.requires (came_table c.step_at.ensures c.in-Ok.is c.entries-stepped.ensures) c.try_plans-r.ensures.answers
    (sym c.is_end.ensures ∙ c.if-is_end.true)

pub try_move-returns-else-is_end-clause-answers : goal.try_move-returns-else-is_end-clause-answers
try_move-returns-else-is_end-clause-answers t c =
    tried_not c.requires (came_table c.step_at.ensures c.in-Ok.is c.entries-stepped.ensures) c.try_plans-r.ensures.answers
    (sym c.is_end.ensures ∙ c.if-is_end.false)

pub try_move-returns-then-fault-eq21-clause-answers : goal.try_move-returns-then-fault-eq21-clause-answers
try_move-returns-then-fault-eq21-clause-answers t c =
    tried_full c.requires (came_refused c.step_at.ensures c.in-Err.is) c.if-fault-eq21.true c.full.ensures

pub try_move-returns-else-fault-eq21-clause-answers : goal.try_move-returns-else-fault-eq21-clause-answers
try_move-returns-else-fault-eq21-clause-answers t c =
    tried_stopped c.requires (came_refused c.step_at.ensures c.in-Err.is) c.if-fault-eq21.false c.none-in-Err.ensures

-- ---- try_plans

pub try_plans-returns-then-all_in_goal-clause-answers : goal.try_plans-returns-then-all_in_goal-clause-answers
try_plans-returns-then-all_in_goal-clause-answers t c =
    tried_reached c.requires c.if-left-eq0.true c.of.ensures c.all_in_goal.ensures c.if-all_in_goal.true

pub try_plans-returns-then-left-eq0-clause-answers : goal.try_plans-returns-then-left-eq0-clause-answers
try_plans-returns-then-left-eq0-clause-answers t c =
    tried_short c.requires c.if-left-eq0.true c.of.ensures c.all_in_goal.ensures c.if-all_in_goal.false c.none.ensures

pub try_plans-returns-then-remembered-clause-answers : goal.try_plans-returns-then-remembered-clause-answers
try_plans-returns-then-remembered-clause-answers t c =
    tried_recalled c.requires (c.remembered.ensures c.if-remembered.true) c.none-then-remembered.ensures

pub try_plans-loop-index-init : goal.try_plans-loop-index-init
try_plans-loop-index-init t c = trying_start c.requires (c.remember.ensures c.args.packed.now c.args.depth.moves)

pub try_plans-try_move-r-requires : goal.try_plans-try_move-r-requires
try_plans-try_move-r-requires t c = (
  omega (arith, c.if-left-eq0.false, c.decreases),
  move_underway c.requires c.if-left-eq0.false c.loop-index.invariant c.loop-index-test.true,
)

pub try_plans-returns-then-is_end-clause-answers : goal.try_plans-returns-then-is_end-clause-answers
try_plans-returns-then-is_end-clause-answers t c =
    trying_found c.requires c.if-left-eq0.false c.loop-index.invariant c.try_move-r.ensures.answers c.loop-index-test.true
    (sym c.is_end.ensures ∙ c.if-is_end.true)

pub try_plans-loop-index-preserved : goal.try_plans-loop-index-preserved
try_plans-loop-index-preserved t c =
    trying_next c.requires c.if-left-eq0.false c.loop-index.invariant c.try_move-r.ensures.answers
    (sym c.is_end.ensures ∙ c.if-is_end.false) c.try_move-r.ensures.keeps

pub try_plans-returns-clause-answers : goal.try_plans-returns-clause-answers
try_plans-returns-clause-answers t c =
    tried_none c.requires c.if-left-eq0.false c.loop-index.invariant (omega arith) c.none-2.ensures

pub try_plans-returns-clause-keeps : goal.try_plans-returns-clause-keeps
try_plans-returns-clause-keeps t c =
    c.remember-2.ensures c.args.packed.now c.args.depth.moves c.loop-index.invariant.remembers
    (none_known c.requires c.if-left-eq0.false c.loop-index.invariant (omega arith) c.none-2.ensures)
