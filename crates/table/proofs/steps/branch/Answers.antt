-- `table::steps::branch` meets its contract. Assumes nothing.
use Rattle.std.proofs.Common.{arith}
use Rattle.table.proofs.laws.steps.CarriedResults.{carried_start, settles_puts, settles_leaf}
use Rattle.table.proofs.steps.branch.Goals as goal

pub skip_decided-s-requires : goal.skip_decided-s-requires
skip_decided-s-requires c = carried_start _ _ c.requires.steady c.requires.entry_steady

pub returns-then-s-len : goal.returns-then-s-len
returns-then-s-len c = settles_puts _ 0 _ _ c.skip_decided-s.ensures.skips c.split.ensures

pub returns : goal.returns
returns c = settles_leaf _ 0 _ _ c.skip_decided-s.ensures.skips (omega arith) _ c.replace.ensures c.offer.ensures
