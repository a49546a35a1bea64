-- `table::entries::Entries::some_above` meets its contract. The invariant: what was found, or the sets from i on decide. Assumes nothing.
use Rattle.std.proofs.Common.{◌≡◌, ◌||◌, drop}
use Rattle.sheet.specs.Literals.{within}
use Rattle.sheet.specs.Lists.{any_of}
use Rattle.table.proofs.entries.Entries.some_above.Given as goal

abbrev pub invariant-loop-i : goal.invariant-loop-i
invariant-loop-i l = any_of (λ e. within l.candidate e) l.self ≡ (l.found || any_of (λ e. within l.candidate e) (drop l.i l.self))
