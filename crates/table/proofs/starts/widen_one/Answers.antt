-- `table::starts::widen_one` meets its contract. Assumes nothing.
use mathlib.Core.Path.{sym, ◌∙◌}
use Rattle.table.proofs.laws.slots.Putting.{nothing_put}
use Rattle.table.proofs.laws.starts.FalsifiedAlternatives.{cut}
use Rattle.table.proofs.starts.widen_one.Goals as goal

pub returns-then-not-consistent : goal.returns-then-not-consistent
returns-then-not-consistent c =
    rw (← c.at.ensures, ← c.join-first.ensures) (nothing_put (cut _ _ (sym c.consistent.ensures ∙ c.if-not-consistent.true)))

pub returns : goal.returns
returns c = rw (c.lay_others.ensures, c.join-first.ensures, c.at.ensures) at c.choose.ensures
