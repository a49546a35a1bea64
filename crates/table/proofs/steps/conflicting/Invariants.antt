-- `table::steps::conflicting` meets its contract. The invariant: the effects from i on decide. Assumes nothing.
use Rattle.std.proofs.Common.{◌≡◌, drop}
use Rattle.sheet.specs.Lists.{any_of}
use Rattle.table.specs.inner.Pairs.{contradicts}
use Rattle.table.proofs.steps.conflicting.Given as goal

abbrev pub invariant-loop-i : goal.invariant-loop-i
invariant-loop-i l = any_of (contradicts l.effects) l.entries ≡ any_of (contradicts (drop l.i l.effects)) l.entries
