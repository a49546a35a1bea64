-- `sheet::reader::sheet_in` meets its contract. Assumes nothing.
use mathlib.Core.Path.{refl, ap}
use native.Mathlib.Omega.{arith}
use borrow.Author.Rules.{rules}
use Rattle.sheet.specs.Form.{done}
use Rattle.sheet.specs.Problem.{Problem}
use Rattle.sheet.specs.Format.{sheet, goal, plan}
use Rattle.sheet.specs.inner.Decoded.{plan_in, statement_in}
use Rattle.sheet.specs.inner.Packed.{action_from}
use Rattle.sheet.proofs.laws.reader.PackedParts.{items_length}
use Rattle.sheet.proofs.laws.reader.ReadParts.{left_all, left_as, left_after, left_next}
use Rattle.sheet.proofs.laws.reader.ReadSections.{sheet_stop, sheet_longer, sheet_whole}
use Rattle.sheet.proofs.laws.reader.ReadSheets.{problem_laid}
use Rattle.sheet.proofs.reader.sheet_in.Goals as goals

pub returns-in_err-facts-clause-judgement : goals.returns-in_err-facts-clause-judgement
unfolding sheet
returns-in_err-facts-clause-judgement c =
    sheet_stop _ refl _ _ (left_all _ _) c.facts.ensures c.in_err-facts.was c.from_residual.ensures.1

pub returns-in_err-moves-clause-judgement : goals.returns-in_err-moves-clause-judgement
unfolding sheet
returns-in_err-moves-clause-judgement c =
    sheet_stop _ refl _ _ (left_after _ (left_all _ _) c.facts.ensures c.in_ok-facts.was)
    c.actions.ensures.reads c.in_err-moves.was c.from_residual-in_err-moves.ensures.1

pub returns-in_err-sets-clause-judgement : goals.returns-in_err-sets-clause-judgement
unfolding sheet goal
returns-in_err-sets-clause-judgement c =
    sheet_stop _ refl _ _
    (left_after _ (left_after _ (left_all _ _) c.facts.ensures c.in_ok-facts.was) c.actions.ensures.reads c.in_ok-moves.was)
    c.sets.ensures c.in_err-sets.was c.from_residual-in_err-sets.ensures.1

pub returns-in_err-plan-clause-judgement : goals.returns-in_err-plan-clause-judgement
unfolding sheet goal
returns-in_err-plan-clause-judgement c =
    sheet_stop _ refl _ _
    (left_next _ (ap plan (items_length 35 action_from c.in_ok-moves.moves c.actions.new.section))
    (left_after _
    (left_after _ (left_after _ (left_all _ _) c.facts.ensures c.in_ok-facts.was) c.actions.ensures.reads c.in_ok-moves.was)
    c.sets.ensures c.in_ok-sets.was))
    c.plan.ensures.reads c.in_err-plan.was c.from_residual-in_err-plan.ensures.1

pub returns-then-r-s-clause-judgement : goals.returns-then-r-s-clause-judgement
unfolding sheet goal
returns-then-r-s-clause-judgement c =
    sheet_longer _ refl
    (left_after _
    (left_next _ (ap plan (items_length 35 action_from c.in_ok-moves.moves c.actions.new.section))
    (left_after _
    (left_after _ (left_after _ (left_all _ _) c.facts.ensures c.in_ok-facts.was) c.actions.ensures.reads c.in_ok-moves.was)
    c.sets.ensures c.in_ok-sets.was))
    c.plan.ensures.reads c.in_ok-plan.was)
    c.if-r-s.true

pub returns-clause-judgement : goals.returns-clause-judgement
unfolding sheet goal statement_in
returns-clause-judgement c =
    sheet_whole _ refl _
    (left_as
    (left_after _
    (left_next _ (ap plan (items_length 35 action_from c.in_ok-moves.moves c.actions.new.section))
    (left_after _
    (left_after _ (left_after _ (left_all _ _) c.facts.ensures c.in_ok-facts.was) c.actions.ensures.reads c.in_ok-moves.was)
    c.sets.ensures c.in_ok-sets.was))
    c.plan.ensures.reads c.in_ok-plan.was)
    (ap (λ (p : Problem). done (record { problem = p; plan = plan_in c.in_ok-plan.plan }))
    (problem_laid c.facts.new.packed _ (omega arith) (search rules) _ (search rules) c.in_ok-facts.facts _ c.in_ok-plan.plan)))
    c.if-r-s.false
