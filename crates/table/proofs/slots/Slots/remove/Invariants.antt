-- `table::slots::Slots::remove` meets its contract. The invariant: the slots below i are done. Assumes nothing.
use Rattle.std.proofs.Common.{not}
use Rattle.sheet.specs.Literals.{within}
use Rattle.table.proofs.laws.arrays.Compaction.{Moved}
use Rattle.table.proofs.slots.Slots.remove.Given as goal

abbrev pub invariant-loop-i : goal.invariant-loop-i
invariant-loop-i g l = Moved (λ e. not (within l.candidate e)) l.count l.initial.self-inside.trues l.initial.self-inside.falses
    l.self-inside.trues l.self-inside.falses l.filled l.i
