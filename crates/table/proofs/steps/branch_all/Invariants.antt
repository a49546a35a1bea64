-- `table::steps::branch_all` meets its contract. The invariant: the entries from i on give what is left. Assumes nothing.
use Rattle.std.proofs.Common.{map, drop}
use Rattle.sheet.specs.Lists.{collect}
use Rattle.table.specs.Step.{pieces, image}
use Rattle.table.proofs.laws.slots.Putting.{Going}
use Rattle.table.proofs.steps.branch_all.Given as goal

abbrev pub invariant-loop-i : goal.invariant-loop-i
invariant-loop-i l = Going 128 (map (image l.effects) (collect (pieces l.effects) l.entries)) l.initial.to
    (map (image l.effects) (collect (pieces l.effects) (drop l.i l.entries))) l.to
