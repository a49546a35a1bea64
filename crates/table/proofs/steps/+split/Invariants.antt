-- The cycle {split}: the measure is the number of conditions left. The invariant: the parts from turn t on give what is left. Assumes
-- nothing.
use Rattle.std.proofs.Common.{◌-◌, map, drop, length}
use Rattle.table.specs.Step.{pieces, image}
use Rattle.table.proofs.laws.slots.Putting.{Going}
use Rattle.table.proofs.laws.steps.PieceWalk.{Turn, parts_from}
use Rattle.table.proofs.steps.+split.Given as goal

abbrev pub decreases-split : goal.decreases-split
decreases-split l = length l.effects.now - l.undecided.at

abbrev pub invariant-loop-t : goal.invariant-loop-t
invariant-loop-t l = record {
  turn : Turn l.missing l.t;
  going : Going 128 (map (image l.effects) (pieces (drop l.at l.effects) l.piece)) l.initial.to
      (parts_from l.effects (drop l.next l.effects) l.condition l.piece l.missing l.t) l.to;
}

abbrev pub decreases-loop-t : goal.decreases-loop-t
decreases-loop-t l = 65 - l.t
