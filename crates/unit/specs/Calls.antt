-- What each function of the C interface answers, over the definitions of the calls.
use Rattle.std.specs.Prelude.{List, ◌++◌, ℕ, ◌*◌, ◌/◌, length, drop}
use Rattle.sheet.specs.Lists.{collect}
use Rattle.sheet.specs.Format.{sheet_of}
use Rattle.sheet.specs.Calls.{judge_of}
use Rattle.table.specs.declared.Table.{Table}
use Rattle.table.specs.Calls.{start_of, step_of}
use Rattle.table.specs.PictureCalls.{picture_of}
use Rattle.plan.specs.declared.Row.{Row}
use Rattle.plan.specs.Calls.{run_of, rows_of, search_of}
use Rattle.unit.specs.declared.Reply.{Reply}
use Rattle.unit.specs.Numbers.{answer_reply, verdict_reply, kind_reply, table_in, row_numbers}

-- the sheet s judged
unfoldable pub judge_reply : List ℕ → Reply
judge_reply s = answer_reply (judge_of s) 0

-- the start of the sheet s
unfoldable pub start_reply : List ℕ → Reply
start_reply s = answer_reply (start_of (sheet_of s)).answer 0

-- the step of a table by the move of a number
unfoldable pub step_reply : List ℕ → List ℕ → ℕ → Reply
step_reply s table number = answer_reply (step_of (sheet_of s) (table_in table) number).answer 0

-- the picture of a table with a buffer of so many bytes: the number of clauses
unfoldable pub picture_reply : List ℕ → List ℕ → ℕ → Reply
picture_reply s table size = answer_reply (picture_of (sheet_of s) (table_in table) size).answer
    (picture_of (sheet_of s) (table_in table) size).clauses

-- the search for a plan of at most `limit` moves
unfoldable pub search_reply : List ℕ → ℕ → Reply
search_reply s limit = kind_reply (search_of (sheet_of s) limit).kind (search_of (sheet_of s) limit).length

-- ---- the run, with a third of as many rows as numbers are lent
unfoldable pub run_reply : List ℕ → List ℕ → Reply
run_reply s rows = verdict_reply (run_of (sheet_of s) (length rows / 3)).verdict

-- the last table it had
unfoldable pub run_table : List ℕ → List ℕ → Table
run_table s rows = (run_of (sheet_of s) (length rows / 3)).table

-- its rows
unfoldable pub rows_with : List ℕ → List ℕ → List Row
rows_with s rows = rows_of (sheet_of s) (length rows / 3)

-- the numbers of its rows, and the others as they were
unfoldable pub rows_out : List ℕ → List ℕ → List ℕ
rows_out s rows = collect row_numbers (rows_with s rows) ++ drop (3 * length (rows_with s rows)) rows
