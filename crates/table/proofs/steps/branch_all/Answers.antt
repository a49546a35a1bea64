-- `table::steps::branch_all` meets its contract. Assumes nothing.
use Rattle.std.proofs.Common.{◌≡◌, true, refl, arith}
use Rattle.sheet.specs.Literals.{no_literal, consistent}
use Rattle.sheet.proofs.laws.base.ListFacts.{all_at}
use Rattle.table.proofs.laws.slots.Putting.{going_start, going_on, going_err, going_end}
use Rattle.table.proofs.laws.steps.PieceWalk.{images_at, images_done}
use Rattle.table.proofs.steps.branch_all.Goals as goal

pub loop-i-init : goal.loop-i-init
loop-i-init c = going_start refl

pub branch-effects-requires-clause-entry_steady : goal.branch-effects-requires-clause-entry_steady
branch-effects-requires-clause-entry_steady c =
    rw c.at.ensures (all_at (λ d. consistent d ≡ true) c.args.entries.now c.loop-i.i no_literal (omega arith) c.requires.entries_steady)

pub returns-in_err-branch : goal.returns-in_err-branch
returns-in_err-branch c =
    let step = images_at c.args.effects.now c.args.entries.now c.loop-i.i _ (omega arith) c.at.ensures in
    going_err _ c.loop-i.invariant step c.branch-effects.ensures c.in_err-branch.was c.from_residual.ensures.0

pub loop-i-preserved : goal.loop-i-preserved
loop-i-preserved c =
    let step = images_at c.args.effects.now c.args.entries.now c.loop-i.i _ (omega arith) c.at.ensures in
    going_on _ c.loop-i.invariant step c.branch-effects.ensures c.in_ok-branch.was

pub returns : goal.returns
returns c = going_end c.loop-i.invariant (images_done c.args.effects.now c.args.entries.now c.loop-i.i (omega arith))
