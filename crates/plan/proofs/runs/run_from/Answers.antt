-- `plan::runs::run_from` meets its contract. Assumes nothing.
use native.Mathlib.Omega.{arith}
use Rattle.sheet.specs.inner.Decoded.{plan_in}
use Rattle.plan.proofs.laws.runs.RunLoop.{going_start, going_room, going_end, going_on, going_halt}
use Rattle.plan.proofs.runs.run_from.Goals as goal

pub loop-number-init : goal.loop-number-init
unfolding plan_in
loop-number-init c = going_start c.requires.runnable c.requires.no_row

pub note-requires-clause-room : goal.note-requires-clause-room
note-requires-clause-room c = going_room c.loop-number.invariant c.loop-number.auto.number-index-end

pub returns-in-Err : goal.returns-in-Err
unfolding plan_in
returns-in-Err c =
    let noted = rw c.entries.ensures at c.note.ensures in
    let step = c.in-Err.ensures in
    going_halt c.loop-number.invariant noted c.loop-number-test.true step.came.outcome step.kept (omega arith) c.halt.ensures

pub loop-number-preserved : goal.loop-number-preserved
loop-number-preserved c =
    let noted = rw c.entries.ensures at c.note.ensures in
    going_on c.loop-number.invariant noted c.loop-number-test.true c.in_default.ensures.came.outcome (omega arith)

pub note-requires-2-clause-room : goal.note-requires-2-clause-room
note-requires-2-clause-room c = going_room c.loop-number.invariant c.loop-number.auto.number-index-end

pub returns : goal.returns
unfolding plan_in
returns c =
    let noted = rw c.entries-2.ensures at c.note-2.ensures in
    let ended = rw (c.of.ensures, c.entries-3.ensures) at c.end.ensures in
    going_end c.loop-number.invariant noted c.loop-number.auto.number-index-end c.loop-number-test.false ended
