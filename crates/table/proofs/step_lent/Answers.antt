-- `table::step_lent` meets its contract. Assumes nothing.
use Rattle.std.proofs.Common.{ap, ◌∙◌}
use Rattle.std.specs.Prelude.{Result}
use Rattle.sheet.specs.declared.Fault.{Fault}
use Rattle.sheet.proofs.laws.reader.ReadSheets.{exit}
use Rattle.table.specs.Entries.{entries, lent}
use Rattle.table.specs.inner.Steps.{step_answer}
use Rattle.table.proofs.laws.steps.StepCall.{call_fault, off_sheet, undescribed, its_move, known_step}
use Rattle.table.proofs.step_lent.Goals as goal

pub returns-in_err-sheet : goal.returns-in_err-sheet
returns-in_err-sheet c =
    let a = c.args in
    ap (λ (r : Result Unit Fault). step_answer (lent a.count a.trues.now a.falses.now) r a.to.now) (exit _ c.from_residual.ensures.1)
    ∙ call_fault _ _ c.decode.ensures.judgement _ _ c.in_err-sheet.was

pub returns-then-sheet-index : goal.returns-then-sheet-index
returns-then-sheet-index c = off_sheet _ _ c.decode.ensures.judgement _ _ c.in_ok-sheet.was c.if-sheet-index.true

pub returns-in_default : goal.returns-in_default
unfolding entries
returns-in_default c =
    undescribed _ _ c.decode.ensures.judgement _ _ c.in_ok-sheet.was c.if-sheet-index.false c.described.ensures c.in_default.is

pub step_at-requires-clause-fits : goal.step_at-requires-clause-fits
unfolding entries
step_at-requires-clause-fits c =
    its_move _ _ c.decode.ensures.judgement _ _ c.in_ok-sheet.was c.if-sheet-index.false c.described.ensures c.in-Some.is
    c.decode.array_long

pub returns : goal.returns
unfolding entries
returns c =
    known_step _ _ c.decode.ensures.judgement _ _ c.in_ok-sheet.was c.if-sheet-index.false c.described.ensures c.in-Some.is
    c.step_at.ensures
