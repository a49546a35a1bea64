-- `sheet::reader::Reader::action` meets its contract. Assumes nothing.
use mathlib.Core.Path.{sym}
use borrow.Author.Rules.{rules}
use Rattle.sheet.specs.Format.{action, list_of}
use Rattle.sheet.proofs.laws.reader.ReadParts.{left_all, left_as, left_after, left_stop, left_made}
use Rattle.sheet.proofs.laws.reader.ReadLoops.{bind_assoc}
use Rattle.sheet.proofs.laws.reader.PackedParts.{action_laid}
use Rattle.sheet.proofs.reader.Reader.action.Goals as goal

pub returns-in_err-precondition : goal.returns-in_err-precondition
unfolding action
returns-in_err-precondition c = left_stop _ (left_all _ _) c.literals.ensures c.in_err-precondition.was c.from_residual.ensures.1

pub returns-in_err-k : goal.returns-in_err-k
unfolding action list_of
returns-in_err-k c =
    left_stop _ (left_as (left_after _ (left_all _ _) c.literals.ensures c.in_ok-precondition.was) (bind_assoc _ _ _))
    c.count.ensures.reads c.in_err-k.was c.from_residual-in_err-k.ensures.1

pub returns : goal.returns
unfolding action list_of
returns c =
    left_made _
    (left_after _
    (left_as (left_after _ (left_all _ _) c.literals.ensures c.in_ok-precondition.was) (bind_assoc _ _ _))
    c.count.ensures.reads c.in_ok-k.was)
    c.effects.ensures
    (λ v. sym (action_laid c.args.item.now _ c.in_ok-precondition.precondition c.in_ok-k.k c.requires (search rules)))
