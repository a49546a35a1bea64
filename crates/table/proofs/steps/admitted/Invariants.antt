-- `table::steps::admitted` meets its contract. The invariant: what was found, or the entries from i on decide. Assumes nothing.
use Rattle.std.proofs.Common.{◌≡◌, ◌||◌, drop}
use Rattle.sheet.specs.Literals.{join, consistent}
use Rattle.sheet.specs.Lists.{any_of}
use Rattle.table.proofs.steps.admitted.Given as goal

abbrev pub invariant-loop-i : goal.invariant-loop-i
invariant-loop-i l = any_of (λ d. consistent (join d l.c)) l.entries
    ≡ (l.found || any_of (λ d. consistent (join d l.c)) (drop l.i l.entries))
