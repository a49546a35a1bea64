-- `table::entries::Entries::some_of_four` meets its contract. Assumes nothing.
use Rattle.std.proofs.Common.{◌∙◌, ap, sym}
use mathlib.Core.Bool.{◌||◌}
use Rattle.sheet.specs.Literals.{within}
use Rattle.table.proofs.laws.slots.LastWithin.{four_tested}
use Rattle.table.proofs.entries.Entries.some_of_four.Goals as goal

pub returns : goal.returns
returns c =
    let l = c.args.candidate in
    (λ i. (c.within-a.ensures ∙ ap (λ e. within e l) c.at.ensures) i || (c.within-b.ensures ∙ ap (λ e. within e l) c.at-2.ensures) i
    || (c.within-c.ensures ∙ ap (λ e. within e l) c.at-3.ensures) i || (c.within-d.ensures ∙ ap (λ e. within e l) c.at-4.ensures) i)
    ∙ sym (four_tested (λ e. within e l) _ _ c.requires.four c.requires.within)
