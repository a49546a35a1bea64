-- `krepuskilo_step` meets its contract: the answer of `step` in numbers and its table, or 255. Assumes nothing.
use Rattle.sheet.specs.Limits.{table_numbers}
use Rattle.unit.proofs.ReplyCases.{lacks_first, lacks_info, lacks_none, step_says, step_told, unwritten, table_told}
use Rattle.unit.proofs.krepuskilo_step.Goals as goal

pub returns : goal.returns
returns c =
    let a = c.args in
    let both =
    let e = lacks_none table_numbers a.table.now a.info.now c.if-table-lt-TABLE_NUMBERS.false c.if-info-lt4.false in
    let d = c.step_numbers-stepped.ensures in
    table_told e (step_told a.sheet.now a.table.now a.index _ _ _ d (step_says _ _ _) c.answer_reply-reply.ensures) d
    _ _ _ _ c.write_step.ensures c.write_info.ensures in record { value = both.0; table_after = both.1.0; info_after = both.1.1 }

pub returns-then-table-lt-TABLE_NUMBERS : goal.returns-then-table-lt-TABLE_NUMBERS
returns-then-table-lt-TABLE_NUMBERS c =
    let a = c.args in
    let both =
    unwritten (lacks_first table_numbers a.table.now a.info.now c.if-table-lt-TABLE_NUMBERS.true) _ _ _ in record
    { value = both.0; table_after = both.1.0; info_after = both.1.1 }

pub returns-then-info-lt4 : goal.returns-then-info-lt4
returns-then-info-lt4 c =
    let a = c.args in
    let both =
    unwritten (lacks_info table_numbers a.table.now a.info.now c.if-table-lt-TABLE_NUMBERS.false c.if-info-lt4.true) _ _ _ in record
    { value = both.0; table_after = both.1.0; info_after = both.1.1 }
