-- `plan::searches::lengths` meets its contract. Assumes nothing.
use mathlib.Core.Path.{sym, ◌∙◌}
use native.Mathlib.Omega.{arith}
use Rattle.plan.proofs.laws.searches.TriedPlans.{lengths_start, length_underway, lengths_found, lengths_next, lengths_none}
use Rattle.plan.proofs.searches.lengths.Goals as goal
use Rattle.plan.proofs.searches.lengths.Goals.{else-loop-length-test, then-loop-length-test+else-is_end+else-length-limit}

pub loop-length-init : goal.loop-length-init
loop-length-init c = lengths_start (c.forget.ensures c.args.packed.now c.args.moves)

pub try_plans-r-requires : goal.try_plans-r-requires
try_plans-r-requires c = length_underway c.loop-length.invariant c.requires.movable (omega arith)

pub returns-then-is_end : goal.returns-then-is_end
returns-then-is_end c =
    lengths_found c.loop-length.invariant c.args.limit (omega arith) c.try_plans-r.ensures.answers
    (sym c.is_end.ensures ∙ c.if-is_end.true)

pub loop-length-preserved : goal.loop-length-preserved
loop-length-preserved c =
    lengths_next c.loop-length.invariant c.args.limit c.try_plans-r.ensures.answers (sym c.is_end.ensures ∙ c.if-is_end.false)
    c.try_plans-r.ensures.keeps

pub returns : goal.returns
returns c = elim c.loop-length-test.branch [
  | else-loop-length-test w ↦ absurd (omega arith)
  | then-loop-length-test+else-is_end+else-length-limit w ↦
      lengths_none (lengths_next c.loop-length.invariant c.args.limit w.try_plans-r.ensures.answers
      (sym w.is_end.ensures ∙ w.if-is_end.false) w.try_plans-r.ensures.keeps) c.args.limit (omega arith) c.none.ensures
]
