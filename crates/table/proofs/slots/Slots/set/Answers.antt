-- `table::slots::Slots::set` meets its contract. Assumes nothing.
use Rattle.std.proofs.Common.{ap, ◌∙◌, arith, length, set}
use Rattle.table.proofs.laws.arrays.HeldLists.{holds_set, holds_entries, held}
use Rattle.table.proofs.slots.Slots.set.Goals as goal

pub invariant_of-self : goal.invariant_of-self
invariant_of-self g c =
    (held (holds_set c.self.invariant.0 _ c.args.set (omega (arith, c.requires, ap length c.self.view_is))), c.self.invariant.1)

pub returns : goal.returns
returns g c =
    holds_entries (holds_set c.self.invariant.0 _ c.args.set (omega (arith, c.requires, ap length c.self.view_is)))
    ∙ ap (λ es. set es c.args.i c.args.set) c.self.view_is
