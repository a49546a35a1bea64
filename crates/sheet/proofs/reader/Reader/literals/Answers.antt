-- `sheet::reader::Reader::literals` meets its contract. Assumes nothing.
use Rattle.sheet.specs.Literals.{no_literal}
use Rattle.sheet.specs.Format.{literals}
use Rattle.sheet.proofs.laws.reader.ReadParts.{left_all, left_after, left_stop}
use Rattle.sheet.proofs.laws.reader.ReadLiterals.{ahead_begin, ahead_more, ahead_stop, ahead_end}
use Rattle.sheet.proofs.reader.Reader.literals.Goals as goal

pub returns-in_err-k : goal.returns-in_err-k
unfolding literals
returns-in_err-k c = left_stop _ (left_all _ _) c.count.ensures.reads c.in_err-k.was c.from_residual.ensures.1

pub loop-init : goal.loop-init
unfolding literals no_literal
loop-init c = ahead_begin (left_after _ (left_all _ _) c.count.ensures.reads c.in_ok-k.was)

pub returns-in_err-b : goal.returns-in_err-b
returns-in_err-b c = ahead_stop c.loop.invariant c.loop-test.true c.literal.ensures.reads c.in_err-b.was c.from_residual-in_err-b.ensures.1

pub loop-preserved : goal.loop-preserved
loop-preserved c =
    ahead_more c.loop.invariant c.loop-test.true c.literal.ensures.reads c.in_ok-b.was c.literal-in-loop.ensures c.join-l.ensures

pub returns : goal.returns
returns c = ahead_end c.loop.invariant c.loop-test.false
