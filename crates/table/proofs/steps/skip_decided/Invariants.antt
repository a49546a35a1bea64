-- `table::steps::skip_decided` meets its contract. The invariant: up to i the piece is whole. Assumes nothing.
use Rattle.table.specs.inner.Carry.{Skips}
use Rattle.table.proofs.steps.skip_decided.Given as goal

abbrev pub invariant-loop-i : goal.invariant-loop-i
invariant-loop-i l = Skips l.effects l.at l.piece (record { at = l.i; results = l.sum })
