-- `unit::numbers::answer_reply` meets its contract: case by case. Assumes nothing.
use mathlib.Core.Path.{ap, sym}
use Rattle.sheet.specs.Calls.{Answer, number_of, position_of}
use Rattle.unit.specs.Numbers.{if_accepted, answer_reply}
use Rattle.unit.proofs.numbers.answer_reply.Goals as goal

pub returns-in-Ok : goal.returns-in-Ok
unfolding number_of position_of if_accepted
returns-in-Ok c = ap (λ (a : Answer). answer_reply a c.args.extra) (sym c.in-Ok.is)

pub returns-in-Err : goal.returns-in-Err
unfolding number_of position_of if_accepted
returns-in-Err c = ap (λ (a : Answer). answer_reply a c.args.extra) (sym c.in-Err.is)
