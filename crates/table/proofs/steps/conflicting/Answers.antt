-- `table::steps::conflicting` meets its contract. Assumes nothing.
use Rattle.std.proofs.Common.{arith}
use Rattle.table.proofs.laws.steps.PairScan.{pairs_turn, pairs_end}
use Rattle.table.proofs.steps.conflicting.Goals as goal

pub returns-then-opposes : goal.returns-then-opposes
returns-then-opposes c =
    let lt = c.loop-i-test.true in
    grind (arith, pairs_turn c.args.effects.now c.args.entries.now c.loop-i.i _ c.at.result (omega arith) c.at.ensures)

pub loop-i-preserved : goal.loop-i-preserved
loop-i-preserved c = grind (arith, pairs_turn c.args.effects.now c.args.entries.now c.loop-i.i _ c.at.result (omega arith) c.at.ensures)

pub returns : goal.returns
returns c = grind (arith, pairs_end)
