-- The cycle {split} meets its contract. Assumes nothing.
use Rattle.std.proofs.Common.{refl, arith}
use Rattle.table.proofs.laws.slots.Putting.{going_start, going_on, going_err, going_end}
use Rattle.table.proofs.laws.steps.CarriedResults.{split_parts, split_carried, settles_puts, settles_leaf}
use Rattle.table.proofs.laws.steps.PieceWalk.{turn_start, turn_on, turn_less, turn_most, parts_turn, parts_end}
use Rattle.table.proofs.steps.+split.Goals as goal
use Rattle.table.proofs.steps.+split.Goals.{then-s-size+in_ok-split, else-s-size+in_ok-offer_by_newest}

pub loop-t-init : goal.loop-t-init
loop-t-init t c = record {
  turn = turn_start _;
  going = going_start (split_parts c.requires c.at.ensures c.minus-missing.ensures);
}

pub skip_decided-s-requires : goal.skip_decided-s-requires
skip_decided-s-requires t c =
    split_carried c.requires c.at.ensures c.minus-missing.ensures c.loop-t-test.true c.loop-t.invariant.turn c.part-p.ensures
    c.carried.ensures

pub returns-in_err-split : goal.returns-in_err-split
returns-in_err-split t c =
    let inv = c.loop-t.invariant in
    going_err _ inv.going (parts_turn _ _ _ _ _ _ c.loop-t-test.true inv.turn refl c.part-p.ensures)
    (settles_puts _ _ _ _ c.skip_decided-s.ensures.skips c.split.ensures) c.in_err-split.was c.from_residual.ensures.0

pub returns-in_err-offer_by_newest : goal.returns-in_err-offer_by_newest
returns-in_err-offer_by_newest t c =
    let inv = c.loop-t.invariant in
    going_err _ inv.going (parts_turn _ _ _ _ _ _ c.loop-t-test.true inv.turn refl c.part-p.ensures)
    (settles_leaf _ _ _ _ c.skip_decided-s.ensures.skips (omega arith) _ c.replace.ensures c.offer_by_newest.ensures)
    c.in_err-offer_by_newest.was c.from_residual-in_err-offer_by_newest.ensures.0

pub overflow_add-t : goal.overflow_add-t
overflow_add-t t c = let k = turn_most _ _ _ c.next-t.ensures c.loop-t-test.true in omega arith

pub loop-t-smaller : goal.loop-t-smaller
loop-t-smaller t c = let k = turn_less _ _ _ c.next-t.ensures in omega (arith, c.loop-t-test.true)

pub loop-t-preserved : goal.loop-t-preserved
loop-t-preserved t c =
    let inv = c.loop-t.invariant in
    let step = parts_turn _ _ _ _ _ _ c.loop-t-test.true inv.turn c.next-t.ensures c.part-p.ensures in
    let skips = c.skip_decided-s.ensures.skips in
    record {
      turn = turn_on _ _ _ c.next-t.ensures;
      going = elim c.if-s-size.branch [
        | then-s-size+in_ok-split w ↦ rw w.to-is (going_on _ inv.going step (settles_puts _ _ _ _ skips w.split.ensures)
            w.in_ok-split.was)
        | else-s-size+in_ok-offer_by_newest w ↦ rw w.to-is (going_on _ inv.going step
            (settles_leaf _ _ _ _ skips (omega arith) _ w.replace.ensures w.offer_by_newest.ensures) w.in_ok-offer_by_newest.was)
      ];
    }

pub returns : goal.returns
returns t c = going_end c.loop-t.invariant.going (parts_end _ _ _ _ _ _ c.loop-t-test.false)
