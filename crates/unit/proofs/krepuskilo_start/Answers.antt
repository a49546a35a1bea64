-- `krepuskilo_start` meets its contract: the answer of `start` in numbers and its table, or 255. Assumes nothing.
use Rattle.sheet.specs.Limits.{table_numbers}
use Rattle.unit.proofs.ReplyCases.{lacks_first, lacks_info, lacks_none, start_says, start_told, unwritten, table_told}
use Rattle.unit.proofs.krepuskilo_start.Goals as goal

pub returns : goal.returns
returns c =
    let a = c.args in
    let both =
    let e = lacks_none table_numbers a.table.now a.info.now c.if-table-lt-TABLE_NUMBERS.false c.if-info-lt4.false in
    let d = c.start_lent-started.ensures in
    table_told e (start_told a.sheet.now _ _ _ d (start_says _ _) c.answer_reply-reply.ensures) d _ _ _ _ c.write_start.ensures
    c.write_info.ensures in record { value = both.0; table_after = both.1.0; info_after = both.1.1 }

pub returns-then-table-lt-TABLE_NUMBERS : goal.returns-then-table-lt-TABLE_NUMBERS
returns-then-table-lt-TABLE_NUMBERS c =
    let a = c.args in
    let both =
    unwritten (lacks_first table_numbers a.table.now a.info.now c.if-table-lt-TABLE_NUMBERS.true) _ _ _ in record
    { value = both.0; table_after = both.1.0; info_after = both.1.1 }

pub returns-then-info-lt4 : goal.returns-then-info-lt4
returns-then-info-lt4 c =
    let a = c.args in
    let both =
    unwritten (lacks_info table_numbers a.table.now a.info.now c.if-table-lt-TABLE_NUMBERS.false c.if-info-lt4.true) _ _ _ in record
    { value = both.0; table_after = both.1.0; info_after = both.1.1 }
