-- `table::steps::step_at` meets its contract. Assumes nothing.
use Rattle.std.proofs.Common.{sym, ◌∙◌}
use Rattle.table.proofs.laws.steps.StepOutcomes.{read_room, effects_steady, entries_steady, came_unsure, came_unclear, came_table, came_full}
use Rattle.table.proofs.steps.step_at.Goals as goal

pub of-effects-requires : goal.of-effects-requires
of-effects-requires c = read_room c.requires.fits

pub returns-then-not-sure : goal.returns-then-not-sure
returns-then-not-sure c =
    came_unsure c.requires.fits c.set_from-precondition.ensures c.of-effects.ensures (sym c.sure.ensures ∙ c.if-not-sure.true)

pub returns-then-conflicting : goal.returns-then-conflicting
returns-then-conflicting c =
    came_unclear c.requires.fits c.set_from-precondition.ensures c.of-effects.ensures (sym c.sure.ensures ∙ c.if-not-sure.false)
    (sym c.conflicting.ensures ∙ c.if-conflicting.true)

pub branch_all-requires-clause-steady : goal.branch_all-requires-clause-steady
branch_all-requires-clause-steady c = effects_steady c.requires.fits c.set_from-precondition.ensures c.of-effects.ensures

pub branch_all-requires-clause-entries_steady : goal.branch_all-requires-clause-entries_steady
branch_all-requires-clause-entries_steady c = entries_steady c.requires.fits.fits

pub returns-in_err-branch_all : goal.returns-in_err-branch_all
returns-in_err-branch_all c =
    came_full c.requires.fits c.set_from-precondition.ensures c.of-effects.ensures (sym c.sure.ensures ∙ c.if-not-sure.false)
    (sym c.conflicting.ensures ∙ c.if-conflicting.false) c.requires.empty c.branch_all.ensures c.in_err-branch_all.was
    c.from_residual.ensures.1

pub returns : goal.returns
returns c =
    came_table c.requires.fits c.set_from-precondition.ensures c.of-effects.ensures (sym c.sure.ensures ∙ c.if-not-sure.false)
    (sym c.conflicting.ensures ∙ c.if-conflicting.false) c.requires.empty c.branch_all.ensures c.in_ok-branch_all.was
