-- `table::starts::widen_all` meets its contract. The invariant: the entries from i on give the whole. Assumes nothing.
use lib.ListN.{drop}
use Rattle.sheet.specs.Lists.{collect, keep}
use Rattle.sheet.specs.Literals as L
use Rattle.table.specs.Start.{candidates}
use Rattle.table.specs.inner.Starts.{clause_of}
use Rattle.table.proofs.laws.slots.Putting.{Going}
use Rattle.table.proofs.starts.widen_all.Given as goal

abbrev pub invariant-loop-i : goal.invariant-loop-i
invariant-loop-i l = Going 128 (keep L.consistent (collect (candidates (clause_of l.kind l.alts)) l.entries)) l.initial.to
    (keep L.consistent (collect (candidates (clause_of l.kind l.alts)) (drop l.i l.entries))) l.to
