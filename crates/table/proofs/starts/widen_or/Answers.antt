-- `table::starts::widen_or` meets its contract. The invariant: the alternatives from i on give the whole. Assumes nothing.
use mathlib.Core.Path.{refl}
use native.Mathlib.Omega.{arith}
use Rattle.table.proofs.laws.slots.ConsistentCandidates.{joined_here, joined_past}
use Rattle.table.proofs.laws.slots.Putting.{going_start, going_on, going_err, going_end}
use Rattle.table.proofs.starts.widen_or.Goals as goal

pub loop-i-init : goal.loop-i-init
loop-i-init c = going_start refl

pub returns-in_err-admit : goal.returns-in_err-admit
returns-in_err-admit c =
    let is = joined_here c.args.alts.now c.loop-i.i _ (omega arith) c.at.ensures c.join.ensures in
    going_err _ c.loop-i.invariant is c.admit.ensures c.in_err-admit.was c.from_residual.ensures.0

pub loop-i-preserved : goal.loop-i-preserved
loop-i-preserved c =
    let is = joined_here c.args.alts.now c.loop-i.i _ (omega arith) c.at.ensures c.join.ensures in
    going_on _ c.loop-i.invariant is c.admit.ensures c.in_ok-admit.was

pub returns : goal.returns
returns c = going_end c.loop-i.invariant (joined_past c.args.alts.now c.loop-i.i _ (omega arith))
