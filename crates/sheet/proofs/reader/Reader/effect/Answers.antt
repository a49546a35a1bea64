-- `sheet::reader::Reader::effect` meets its contract. Assumes nothing.
use mathlib.Core.Path.{refl}
use Rattle.sheet.specs.Format.{effect}
use Rattle.sheet.proofs.laws.reader.ReadParts.{left_all, left_after, left_stop, left_end}
use Rattle.sheet.proofs.reader.Reader.effect.Goals as goal

pub returns-in_err-condition : goal.returns-in_err-condition
unfolding effect
returns-in_err-condition c = left_stop _ (left_all _ _) c.literals.ensures c.in_err-condition.was c.from_residual.ensures.1

pub returns-in_err-result : goal.returns-in_err-result
unfolding effect
returns-in_err-result c =
    left_stop _ (left_after _ (left_all _ _) c.literals.ensures c.in_ok-condition.was)
    c.literals-2.ensures c.in_err-result.was c.from_residual-in_err-result.ensures.1

pub returns : goal.returns
unfolding effect
returns c =
    left_end
    (left_after _ (left_after _ (left_all _ _) c.literals.ensures c.in_ok-condition.was) c.literals-2.ensures c.in_ok-result.was) refl
