-- `plan::runs::course_into` meets its contract. Assumes nothing.
use mathlib.Core.Path.{◌∙◌}
use Rattle.sheet.specs.inner.Decoded.{statement_in}
use Rattle.sheet.proofs.laws.reader.ReadSheets.{filled, refused_says, accepted_says}
use Rattle.plan.proofs.laws.runs.CourseOfBytes.{refusal_is, course_few, course_run, course_fault}
use borrow.Author.Rules.{rules}
use Rattle.plan.proofs.runs.course_into.Goals as goal

pub returns-then-lent-lt-PLACES : goal.returns-then-lent-lt-PLACES
returns-then-lent-lt-PLACES c =
    refusal_is 23 0 c.requires.no_entry c.requires.no_row
    ∙ course_few _ _ (accepted_says _ _ c.decode.ensures.judgement c.in-Ok.is) _ c.if-lent-lt-PLACES.true

pub run_sheet-requires-clause-filled : goal.run_sheet-requires-clause-filled
run_sheet-requires-clause-filled c = filled _ _ c.decode.ensures.judgement c.in-Ok.is c.in-Ok.ensures.few c.decode.array_long

pub returns-in-Err : goal.returns-in-Err
returns-in-Err c =
    refusal_is _ _ c.requires.no_entry c.requires.no_row
    ∙ course_fault _ _ _ _ (refused_says _ _ c.decode.ensures.judgement c.in-Err.is)

pub returns-else-lent-lt-PLACES : goal.returns-else-lent-lt-PLACES
unfolding statement_in
returns-else-lent-lt-PLACES c =
    c.run_sheet.ensures
    ∙ course_run _ _ (accepted_says _ _ c.decode.ensures.judgement c.in-Ok.is) _ c.if-lent-lt-PLACES.false
