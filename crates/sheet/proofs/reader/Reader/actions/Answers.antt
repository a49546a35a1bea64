-- `sheet::reader::Reader::actions` meets its contract. Assumes nothing.
use mathlib.Core.Path.{refl, ap}
use native.Mathlib.Omega.{arith}
use borrow.Author.Rules.{rules}
use Rattle.sheet.specs.Format.{actions, list_of}
use Rattle.sheet.specs.inner.Packed.{items_at, action_from, actions_at}
use Rattle.sheet.proofs.laws.reader.ReadParts.{left_all, left_after, left_stop}
use Rattle.sheet.proofs.laws.reader.ReadLoops.{turns_begin, turns_more, turns_stop, turns_end}
use Rattle.sheet.proofs.laws.reader.PackedParts.{items_laid}
use Rattle.sheet.proofs.reader.Reader.actions.Goals as goal

pub returns-in_err-k-clause-reads : goal.returns-in_err-k-clause-reads
unfolding actions list_of
returns-in_err-k-clause-reads c = left_stop _ (left_all _ _) c.count.ensures.reads c.in_err-k.was c.from_residual.ensures.1

pub loop-i-init : goal.loop-i-init
unfolding actions list_of items_at
loop-i-init c = turns_begin (left_after _ (left_all _ _) c.count.ensures.reads c.in_ok-k.was) refl

pub returns-in_err-action-clause-reads : goal.returns-in_err-action-clause-reads
returns-in_err-action-clause-reads c =
    turns_stop c.loop-i.invariant c.loop-i-test.true c.action.ensures c.in_err-action.was c.from_residual-in_err-action.ensures.1

pub loop-i-preserved : goal.loop-i-preserved
loop-i-preserved c =
    let v = c.loop-i in
    turns_more v.invariant c.loop-i-test.true c.action.ensures c.in_ok-action.was
    (items_laid 35 action_from v.i v.section _ (omega (arith, c.in_ok-k.ensures.most)) (search rules))

pub returns-clause-reads : goal.returns-clause-reads
returns-clause-reads c = turns_end c.loop-i.invariant c.loop-i-test.false (ap (λ n. actions_at n c.loop-i.section) (omega arith))
