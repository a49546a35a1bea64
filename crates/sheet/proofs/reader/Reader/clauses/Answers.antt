-- `sheet::reader::Reader::clauses` meets its contract. Assumes nothing.
use mathlib.Core.Path.{refl, ap}
use native.Mathlib.Omega.{arith}
use borrow.Author.Rules.{rules}
use Rattle.sheet.specs.Format.{clause, clauses, list_of}
use Rattle.sheet.specs.inner.Packed.{items_at, sets_in, clauses_at}
use Rattle.sheet.proofs.laws.reader.ReadParts.{left_all, left_after, left_stop}
use Rattle.sheet.proofs.laws.reader.ReadLoops.{turns_begin, turns_more, turns_stop, turns_end}
use Rattle.sheet.proofs.laws.reader.PackedParts.{items_laid}
use Rattle.sheet.proofs.reader.Reader.clauses.Goals as goal

pub returns-in_err-k : goal.returns-in_err-k
unfolding clauses list_of
returns-in_err-k c = left_stop _ (left_all _ _) c.count.ensures.reads c.in_err-k.was c.from_residual.ensures.1

pub loop-i-init : goal.loop-i-init
unfolding clauses list_of items_at
loop-i-init c = turns_begin (left_after _ (left_all _ _) c.count.ensures.reads c.in_ok-k.was) refl

pub returns-in_err-sets : goal.returns-in_err-sets
unfolding clause
returns-in_err-sets c =
    turns_stop c.loop-i.invariant c.loop-i-test.true c.sets.ensures c.in_err-sets.was c.from_residual-in_err-sets.ensures.1

pub loop-i-preserved : goal.loop-i-preserved
unfolding clause
loop-i-preserved c =
    let v = c.loop-i in
    turns_more v.invariant c.loop-i-test.true c.sets.ensures c.in_ok-sets.was
    (items_laid 17 sets_in v.i v.section _ (omega (arith, c.in_ok-k.ensures.most)) (search rules))

pub returns : goal.returns
returns c = turns_end c.loop-i.invariant c.loop-i-test.false (ap (λ n. clauses_at n c.loop-i.section) (omega arith))
