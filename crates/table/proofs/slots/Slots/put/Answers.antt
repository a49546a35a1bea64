-- `table::slots::Slots::put` meets its contract. Assumes nothing.
use Rattle.std.proofs.Common.{sym, ◌∙◌}
use Rattle.sheet.specs.Literals.{within}
use Rattle.table.proofs.laws.slots.LastWithin.{found_is}
use Rattle.table.proofs.laws.slots.PutFates.{fate_dropped, after_dropped, full_fate, full_after, added_fate, added_after, fewer}
use Rattle.table.proofs.slots.Slots.put.Goals as goal

pub returns-then-is_some : goal.returns-then-is_some
returns-then-is_some g c =
    let s = found_is (λ e. within e c.args.candidate) c.is_some.ensures c.last_within.ensures c.entries.ensures ∙ c.if-is_some.true in
    record { value = sym (fate_dropped _ _ _ s); list = sym (after_dropped _ _ _ s) }

pub returns-then-remaining : goal.returns-then-remaining
returns-then-remaining g c =
    let s = found_is (λ e. within e c.args.candidate) c.is_some.ensures c.last_within.ensures c.entries.ensures ∙ c.if-is_some.false in
    let before = c.len-before.ensures in
    let rest = c.len-remaining.ensures.count in
    record {
      value = full_fate _ _ _ c.remove.ensures before.count rest s c.if-remaining.true;
      list = full_after _ _ _ c.remove.ensures before.count rest s c.if-remaining.true before.most;
    }

pub overflow_sub-result : goal.overflow_sub-result
overflow_sub-result g c = fewer g.row.N _ _ c.remove.ensures c.len-before.ensures.count c.len-remaining.ensures.count

pub returns : goal.returns
returns g c =
    let s = found_is (λ e. within e c.args.candidate) c.is_some.ensures c.last_within.ensures c.entries.ensures ∙ c.if-is_some.false in
    let before = c.len-before.ensures.count in
    let rest = c.len-remaining.ensures.count in
    record {
      value = added_fate _ _ _ c.remove.ensures before rest s c.if-remaining.false;
      list = c.push.ensures ∙ added_after _ _ _ c.remove.ensures before rest s c.if-remaining.false;
    }
