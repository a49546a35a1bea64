-- `table::steps::skip_decided` meets its contract. Assumes nothing.
use Rattle.std.proofs.Common.{◌<◌, length, arith, sym, ◌∙◌}
use Rattle.table.proofs.laws.steps.CarriedResults.{settles_start, on_within, on_clash}
use Rattle.table.proofs.steps.skip_decided.Goals as goal
use Rattle.table.proofs.steps.skip_decided.Goals.{else-within+else-not-clash, then-within}

pub loop-i-init : goal.loop-i-init
loop-i-init c = settles_start _ _ _ _ c.requires

pub loop-i-preserved : goal.loop-i-preserved
loop-i-preserved c =
    let lt : c.loop-i.i < length c.args.effects.now = omega (arith, c.len-i-end.ensures) in
    elim c.if-within.branch [
      | then-within w ↦ on_within _ _ _ _ c.loop-i.invariant _ lt c.at-e.ensures _ (sym c.within.ensures ∙ w.if-within.true)
          (w.sum-is ∙ w.join-sum.ensures)
      | else-within+else-not-clash w ↦ on_clash _ _ _ _ c.loop-i.invariant _ lt c.at-e.ensures _
          (sym w.clash.ensures ∙ w.if-not-clash.false) w.sum-is
    ]
