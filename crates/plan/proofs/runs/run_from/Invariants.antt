-- `plan::runs::run_from` meets its contract. The invariant: what is left of the plan, after the rows so far, gives the whole.
use mathlib.Core.List.{[]}
use Rattle.sheet.specs.inner.Packed.{goal_in, sets_in}
use Rattle.plan.specs.inner.Course.{course_from}
use Rattle.plan.proofs.laws.runs.RunLoop.{left, Going}
use Rattle.plan.proofs.runs.run_from.Given as goal

abbrev pub invariant-loop-number : goal.invariant-loop-number
invariant-loop-number l = Going l.numbers l.packed
    (course_from (sets_in (goal_in l.packed)) [] 0 (left l.numbers l.packed 0) l.initial.table) l.number-index l.table l.counts
