-- `krepuskilo_picture` meets its contract: the answer of `picture` in numbers and its buffer, or 255. Assumes nothing.
use mathlib.Core.Path.{ap, ◌∙◌}
use Rattle.sheet.specs.Limits.{table_numbers}
use Rattle.sheet.specs.Format.{sheet_of}
use Rattle.table.specs.declared.Table.{Table}
use Rattle.table.specs.PictureCalls.{buffer_of}
use Rattle.unit.proofs.ReplyCases.{second, lacks_first, lacks_info, lacks_none, byte, numbers, picture_told, unwritten}
use Rattle.unit.proofs.krepuskilo_picture.Goals as goal

pub returns : goal.returns
returns c =
    let a = c.args in
    let e = lacks_none table_numbers a.table.now a.info.now c.if-table-lt-TABLE_NUMBERS.false c.if-info-lt4.false in
    let given = c.table_in-given.ensures in
    let same = picture_told _ _ _ _ _ _ given c.picture-pictured.ensures.value c.answer_reply-reply.ensures in
    let drawn = c.picture-pictured.ensures.buffer_after ∙ ap (λ (t : Table). buffer_of (sheet_of a.sheet.now) t a.buffer.now) given in
    record {
      value = byte e _ _ same;
      buffer_after = second _ _ _ e drawn;
      info_after = numbers e _ _ same _ _ c.write_info.ensures;
    }

pub returns-then-table-lt-TABLE_NUMBERS : goal.returns-then-table-lt-TABLE_NUMBERS
returns-then-table-lt-TABLE_NUMBERS c =
    let a = c.args in
    let both =
    unwritten (lacks_first table_numbers a.table.now a.info.now c.if-table-lt-TABLE_NUMBERS.true) _ _ _ in record
    { value = both.0; buffer_after = both.1.0; info_after = both.1.1 }

pub returns-then-info-lt4 : goal.returns-then-info-lt4
returns-then-info-lt4 c =
    let a = c.args in
    let both =
    unwritten (lacks_info table_numbers a.table.now a.info.now c.if-table-lt-TABLE_NUMBERS.false c.if-info-lt4.true) _ _ _ in record
    { value = both.0; buffer_after = both.1.0; info_after = both.1.1 }
