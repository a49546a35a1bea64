-- `table::starts::widen_all` meets its contract. The invariant: the entries from i on give the whole. Assumes nothing.
use mathlib.Core.Path.{refl}
use native.Mathlib.Omega.{arith}
use Rattle.table.proofs.laws.slots.ConsistentCandidates.{collect_here, collect_past}
use Rattle.table.proofs.laws.slots.Putting.{going_start, going_on, going_err, going_end}
use Rattle.table.proofs.starts.widen_all.Goals as goal

pub loop-i-init : goal.loop-i-init
loop-i-init c = going_start refl

pub returns-in_err-widen : goal.returns-in_err-widen
returns-in_err-widen c =
    going_err _ c.loop-i.invariant (collect_here c.args.entries.now c.loop-i.i _ (omega arith) c.at.ensures) c.widen.ensures
    c.in_err-widen.was c.from_residual.ensures.0

pub loop-i-preserved : goal.loop-i-preserved
loop-i-preserved c =
    going_on _ c.loop-i.invariant (collect_here c.args.entries.now c.loop-i.i _ (omega arith) c.at.ensures) c.widen.ensures
    c.in_ok-widen.was

pub returns : goal.returns
returns c = going_end c.loop-i.invariant (collect_past c.args.entries.now c.loop-i.i _ (omega arith))
