-- The cycle {choose}: the measure is the number of alternatives left. The invariant: the literals that are left give the whole, and the
-- piece has none of them. Assumes nothing.
use mathlib.Core.Path.{refl, ap, ◌∙◌}
use native.Mathlib.Omega.{arith}
use Rattle.sheet.specs.inner.Masks.{minus}
use Rattle.std.proofs.lemmas.List.{drop_more}
use Rattle.table.proofs.laws.slots.Putting.{puts_is, going_start, going_on, going_err, going_end}
use Rattle.table.proofs.laws.starts.FalsifiedAlternatives.{chosen_all, chosen_by, chosen_steady, free_start, free_on}
use Rattle.table.proofs.laws.starts.FalsifiedAlternatives.{choices_start, choices_step, choices_less, choices_end}
use Rattle.table.proofs.starts.+choose.Goals as goal
use Rattle.table.proofs.starts.+choose.Goals.{then-after-size+in_ok-choose, else-after-size+in_ok-offer_by_newest}

pub returns-then-size-at : goal.returns-then-size-at
returns-then-size-at t c = puts_is (chosen_all _ _ c.len-size.ensures.count c.if-size-at.true c.requires) c.offer_by_newest.ensures

pub loop-l-init : goal.loop-l-init
loop-l-init t c =
    let e = c.minus-rest.ensures ∙ ap (λ x. minus x c.args.piece) (rw c.entries.ensures at c.at.ensures) in
    record {
      going = going_start (choices_start _ _ _ _ _ c.requires (drop_more c.args.alts.now c.args.at _ (omega arith)) e);
      least = c.next-l.ensures;
      free = free_start _ _ _ e;
    }

pub choose-requires : goal.choose-requires
choose-requires t c =
    let inv = c.loop-l.invariant in
    let k = chosen_by inv.least c.loop-l-test.true c.literal-one.ensures c.flip.ensures c.join-chosen.ensures in
    (omega arith, chosen_steady k c.requires inv.free)

pub returns-in_err-choose : goal.returns-in_err-choose
returns-in_err-choose t c =
    let inv = c.loop-l.invariant in
    let k = chosen_by inv.least c.loop-l-test.true c.literal-one.ensures c.flip.ensures c.join-chosen.ensures in
    going_err _ inv.going (choices_step _ _ k refl) c.choose.ensures c.in_err-choose.was c.from_residual.ensures.0

pub returns-in_err-offer_by_newest : goal.returns-in_err-offer_by_newest
returns-in_err-offer_by_newest t c =
    let inv = c.loop-l.invariant in
    let k = chosen_by inv.least c.loop-l-test.true c.literal-one.ensures c.flip.ensures c.join-chosen.ensures in
    let is = chosen_all _ _ c.len-size.ensures.count c.if-after-size.false (chosen_steady k c.requires inv.free) in
    going_err _ inv.going (choices_step _ _ k refl) (puts_is is c.offer_by_newest-else-after-size.ensures)
    c.in_err-offer_by_newest.was c.from_residual-in_err-offer_by_newest.ensures.0

pub loop-l-smaller : goal.loop-l-smaller
loop-l-smaller t c =
    let k = chosen_by c.loop-l.invariant.least c.loop-l-test.true c.literal-one.ensures c.flip.ensures c.join-chosen.ensures in
    choices_less k (c.minus-rest-in-loop-l.ensures ∙ ap (minus _) c.literal-one.ensures)

pub loop-l-preserved : goal.loop-l-preserved
loop-l-preserved t c =
    let inv = c.loop-l.invariant in
    let k = chosen_by inv.least c.loop-l-test.true c.literal-one.ensures c.flip.ensures c.join-chosen.ensures in
    let step = choices_step _ _ k (c.minus-rest-in-loop-l.ensures ∙ ap (minus _) c.literal-one.ensures) in
    record {
      going = elim c.if-after-size.branch [
        | then-after-size+in_ok-choose w ↦ rw w.to-is (going_on _ inv.going step w.choose.ensures w.in_ok-choose.was)
        | else-after-size+in_ok-offer_by_newest w ↦ rw w.to-is (going_on _ inv.going step
            (puts_is (chosen_all _ _ c.len-size.ensures.count w.if-after-size.false (chosen_steady k c.requires inv.free))
            w.offer_by_newest-else-after-size.ensures) w.in_ok-offer_by_newest.was)
      ];
      least = c.next-l-in-loop-l.ensures;
      free = free_on _ _ _ _ inv.free c.minus-rest-in-loop-l.ensures;
    }

pub returns : goal.returns
returns t c =
    let inv = c.loop-l.invariant in
    going_end inv.going (choices_end _ _ _ _ inv.least c.loop-l-test.false)
