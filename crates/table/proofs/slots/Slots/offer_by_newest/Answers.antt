-- `table::slots::Slots::offer_by_newest` meets its contract. Assumes nothing.
use Rattle.std.proofs.Common.{sym, ◌∙◌, ap, arith, length}
use Rattle.sheet.specs.Literals.{within}
use Rattle.sheet.specs.Lists.{any_of}
use Rattle.table.proofs.laws.arrays.ListLoops.{passes_at}
use Rattle.table.proofs.laws.slots.PutFates.{already_there}
use Rattle.table.proofs.slots.Slots.offer_by_newest.Goals as goal

pub returns-then-within : goal.returns-then-within
returns-then-within g c =
    let l = c.args.candidate in
    let same = c.entries.ensures in
    already_there (sym (ap (any_of (λ e. within e l)) same)
    ∙ passes_at (λ e. within e l) c.entries.result _ _ (omega (arith, c.len-count.ensures.count, ap length same))
    (ap (λ e. within e l) (sym c.at.ensures) ∙ sym c.within.ensures ∙ c.if-within.true))
