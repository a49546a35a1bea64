-- `table::slots::Slots::admit` meets its contract. Assumes nothing.
use Rattle.std.proofs.Common.{sym, ◌∙◌}
use Rattle.table.proofs.laws.slots.Putting.{nothing_put, puts_is}
use Rattle.table.proofs.laws.slots.ConsistentCandidates.{kept_one, left_out}
use Rattle.table.proofs.slots.Slots.admit.Goals as goal

pub returns-then-consistent : goal.returns-then-consistent
returns-then-consistent g c = puts_is (sym (kept_one _ (sym c.consistent.ensures ∙ c.if-consistent.true))) c.offer.ensures

pub returns : goal.returns
returns g c = nothing_put (left_out _ (sym c.consistent.ensures ∙ c.if-consistent.false))
