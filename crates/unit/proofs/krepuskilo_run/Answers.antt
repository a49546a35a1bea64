-- `krepuskilo_run` meets its contract: the answer of the run in numbers, its rows and its last table, or 255. Assumes nothing.
use Rattle.sheet.specs.Limits.{table_numbers}
use Rattle.sheet.proofs.laws.base.Bools.{cond_true}
use Rattle.unit.proofs.ReplyCases.{second, lacks_first, lacks_info, lacks_none, byte, tables, numbers, run_told, run_table_lem}
use Rattle.unit.proofs.RowNumbers.{rows_room, rows_out_lem}
use Rattle.unit.proofs.krepuskilo_run.Goals as goal

pub returns-then-table-lt-TABLE_NUMBERS : goal.returns-then-table-lt-TABLE_NUMBERS
returns-then-table-lt-TABLE_NUMBERS c =
    let a = c.args in
    let e = lacks_first table_numbers a.table.now a.info.now c.if-table-lt-TABLE_NUMBERS.true in
    record {
      value = cond_true _ _ e;
      rows_after = cond_true _ _ e;
      table_after = cond_true _ _ e;
      info_after = cond_true _ _ e;
    }

pub returns-then-info-lt4 : goal.returns-then-info-lt4
returns-then-info-lt4 c =
    let a = c.args in
    let e = lacks_info table_numbers a.table.now a.info.now c.if-table-lt-TABLE_NUMBERS.false c.if-info-lt4.true in
    record {
      value = cond_true _ _ e;
      rows_after = cond_true _ _ e;
      table_after = cond_true _ _ e;
      info_after = cond_true _ _ e;
    }

pub write_row_numbers-requires : goal.write_row_numbers-requires
write_row_numbers-requires c = rows_room _ c.args.rows.now _ c.course_into-verdict.ensures

pub returns : goal.returns
returns c =
    let a = c.args in
    let e = lacks_none table_numbers a.table.now a.info.now c.if-table-lt-TABLE_NUMBERS.false c.if-info-lt4.false in
    let d = c.course_into-verdict in
    let same = run_told _ a.rows.now _ _ d.ensures c.from-reply.ensures in record {
      value = byte e _ _ same;
      rows_after = second _ _ _ e (rows_out_lem _ _ _ d.ensures _ c.write_row_numbers.ensures);
      table_after = tables e _ _ _ _ (run_table_lem _ a.rows.now _ d.ensures) c.write_table.ensures;
      info_after = numbers e _ _ same _ _ c.write_info.ensures;
    }
