-- `table::tables::all_proper` meets its contract. The invariant: the entries from i on decide. Assumes nothing.
use Rattle.std.proofs.Common.{◌≡◌, drop}
use Rattle.sheet.specs.Lists.{all_of}
use Rattle.table.specs.Minimal.{proper}
use Rattle.table.proofs.tables.all_proper.Given as goal

abbrev pub invariant-loop-i : goal.invariant-loop-i
invariant-loop-i l = all_of (proper l.n) l.entries ≡ all_of (proper l.n) (drop l.i l.entries)
