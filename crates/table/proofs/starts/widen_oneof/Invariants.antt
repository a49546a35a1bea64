-- `table::starts::widen_oneof` meets its contract. The invariant: the alternatives from i on give the whole. Assumes nothing.
use Rattle.sheet.specs.Literals as L
use Rattle.sheet.specs.Lists.{keep}
use Rattle.table.specs.Start.{candidates, one_of}
use Rattle.table.proofs.laws.starts.OneofWays.{ways_from}
use Rattle.table.proofs.laws.slots.Putting.{Going}
use Rattle.table.proofs.starts.widen_oneof.Given as goal

abbrev pub invariant-loop-i : goal.invariant-loop-i
invariant-loop-i l = Going 128 (keep L.consistent (candidates (one_of l.alts) l.entry)) l.initial.to
    (keep L.consistent (ways_from l.alts l.entry l.i)) l.to
