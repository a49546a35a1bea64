-- `table::entries::Entries::last_within` meets its contract. The invariant: what the sets below the blocks that were tested give is what
-- all give. Assumes nothing.
use Rattle.std.proofs.Common.{◌∙◌, arith, sym, ◌+◌, ◌-◌, ◌*◌, ◌%◌}
use Rattle.sheet.specs.Literals.{within}
use Rattle.table.proofs.laws.slots.LastWithin.{four_missed}
use Rattle.table.proofs.entries.Entries.last_within.Goals as goal

pub loop-block-preserved : goal.loop-block-preserved
loop-block-preserved c =
    let l = c.loop-block in
    let rest = c.len-rest.result % 4 in
    let from = rest + 4 * (l.block - 1) in
    four_missed (λ e. within e c.args.candidate) _ from (rest + 4 * l.block) (from + 4)
    (sym c.some_of_four.ensures ∙ c.if-some_of_four.false) (omega arith) (omega arith) ∙ l.invariant
