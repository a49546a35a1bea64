-- `table::entries::Entries::first_above` meets its contract. The invariant: none of the first i sets contains the candidate. Assumes
-- nothing.
use Rattle.std.proofs.Common.{◌≡◌, false, take}
use Rattle.sheet.specs.Literals.{within}
use Rattle.sheet.specs.Lists.{any_of}
use Rattle.table.proofs.entries.Entries.first_above.Given as goal

abbrev pub invariant-loop-i : goal.invariant-loop-i
invariant-loop-i l = any_of (λ e. within l.candidate e) (take l.i l.self) ≡ false
