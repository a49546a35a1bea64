-- `unit::numbers::step_numbers` meets its contract. Assumes nothing.
use Rattle.unit.specs.Numbers.{table_in}
use Rattle.unit.proofs.numbers.step_numbers.Goals as goal

pub returns : goal.returns
unfolding table_in
returns c = c.step_lent.ensures
