-- `unit::numbers::write_step` meets its contract. Assumes nothing.
use Rattle.std.proofs.Common.{◌≡◌, sym, ap, ◌∙◌}
use Rattle.std.specs.Prelude.{Result}
use Rattle.sheet.specs.declared.Fault.{Fault}
use Rattle.table.specs.inner.Steps.{step_answer}
use Rattle.unit.specs.Numbers.{table_in, table_out}
use Rattle.unit.proofs.StoredNumbers.{table_back}
use Rattle.unit.proofs.numbers.write_step.Goals as goal

pub returns-in-Err : goal.returns-in-Err
returns-in-Err c =
    let a = c.args in
    table_back a.numbers.now c.requires
    ∙ ap (λ (r : Result Unit Fault). table_out (step_answer (table_in a.numbers.now) r a.list).table a.numbers.now) (sym c.in-Err.is)
