-- `table::starts::widen_oneof` meets its contract. The invariant: the alternatives from i on give the whole. Assumes nothing.
use Rattle.table.proofs.laws.starts.OneofWays.{ways_start, ways_step, ways_end}
use Rattle.table.proofs.laws.slots.Putting.{going_start, going_on, going_err, going_end}
use Rattle.table.proofs.starts.widen_oneof.Goals as goal

pub loop-i-init : goal.loop-i-init
loop-i-init c = going_start (ways_start _ _)

pub returns-in_err-widen_one : goal.returns-in_err-widen_one
returns-in_err-widen_one c =
    going_err _ c.loop-i.invariant (ways_step _ _ c.len-i-end.ensures.value c.loop-i-test.true) c.widen_one.ensures
    c.in_err-widen_one.was c.from_residual.ensures.0

pub loop-i-preserved : goal.loop-i-preserved
loop-i-preserved c =
    going_on _ c.loop-i.invariant (ways_step _ _ c.len-i-end.ensures.value c.loop-i-test.true) c.widen_one.ensures
    c.in_ok-widen_one.was

pub returns : goal.returns
returns c = going_end c.loop-i.invariant (ways_end _ _ c.len-i-end.ensures.value c.loop-i-test.false)
