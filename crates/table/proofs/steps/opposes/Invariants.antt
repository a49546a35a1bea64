-- `table::steps::opposes` meets its contract. The invariant: the effects from j on decide. Assumes nothing.
use Rattle.std.proofs.Common.{◌≡◌, drop}
use Rattle.sheet.specs.Lists.{any_of}
use Rattle.table.specs.inner.Pairs.{opposed}
use Rattle.table.proofs.steps.opposes.Given as goal

abbrev pub invariant-loop-j : goal.invariant-loop-j
invariant-loop-j l = any_of (λ f. any_of (λ d. opposed l.e d f) l.entries) (drop l.from l.effects)
    ≡ any_of (λ f. any_of (λ d. opposed l.e d f) l.entries) (drop l.j l.effects)
