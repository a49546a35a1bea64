-- `table::steps::sure` meets its contract. The invariant: the entries from i on decide. Assumes nothing.
use Rattle.std.proofs.Common.{◌≡◌, drop}
use Rattle.sheet.specs.Literals.{within}
use Rattle.sheet.specs.Lists.{all_of}
use Rattle.table.proofs.steps.sure.Given as goal

abbrev pub invariant-loop-i : goal.invariant-loop-i
invariant-loop-i l = all_of (within l.precondition) l.entries ≡ all_of (within l.precondition) (drop l.i l.entries)
