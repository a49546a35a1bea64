-- `table::tables::is_antichain` meets its contract. The invariants: the entries from i on, and those from j on with entry i, decide.
-- Assumes nothing.
use Rattle.std.proofs.Common.{◌≡◌, ◌+◌, true, ◌&&◌, drop}
use Rattle.table.specs.Minimal.{apart as apartOf, antichain}
use Rattle.table.proofs.tables.is_antichain.Given as goal

abbrev pub invariant-loop-j : goal.invariant-loop-j
invariant-loop-j l = record {
  none_yet : l.apart ≡ true;
  onwards : antichain l.entries ≡ (apartOf l.a (drop l.j l.entries) && antichain (drop (l.i + 1) l.entries));
}

abbrev pub invariant-pairs : goal.invariant-pairs
invariant-pairs l = record { none_yet : l.apart ≡ true; onwards : antichain l.entries ≡ antichain (drop l.i l.entries) }
