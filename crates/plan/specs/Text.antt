-- The text of the program `check` (document 01, "The program `check`"), as ASCII bytes.
use Rattle.std.specs.Prelude.{cond, List, [], ◌∷◌, ◌++◌, ℕ, zero, suc, ◌+◌, ◌/◌, ◌%◌, ltb, eqb, length, drop}
use Prim.Native.Char.{code}
use Prim.Native.String.{String, [] as none, ◌∷◌ as ◌then◌}
use Rattle.sheet.specs.Limits.{full_picture, most_places, report_length}
use Rattle.sheet.specs.Format.{Judgement}
use Rattle.plan.specs.declared.Row.{Row}
use Rattle.plan.specs.declared.Verdict.{Verdict}
use Rattle.plan.specs.declared.Verdict.TheVariants.{Reached, Short, Stopped, Full, Refused}
use Rattle.plan.specs.Calls.{run_of, rows_of}
use Rattle.plan.specs.Demand3.{refused_verdict}

-- the codes of the characters of a text
abbrev pub ascii : String → List ℕ
ascii none = []
ascii (c then s) = code c ∷ ascii s

-- the decimal digits of a number that has at most k of them, without zeros in front
abbrev pub digits_of : ℕ → ℕ → List ℕ
digits_of zero x = []
digits_of (suc k) x = let higher = digits_of k (x / 10) in cond (ltb x 10) [] higher ++ ((48 + x % 10) ∷ [])

-- a number in decimal: no number has more digits than one above itself
unfoldable pub decimal : ℕ → List ℕ
decimal x = digits_of (suc x) x

-- "A full picture prints `-` as clauses"
unfoldable pub clauses_text : ℕ → List ℕ
clauses_text x = cond (eqb x full_picture) (ascii "-") (decimal x)

-- "place, entries, clauses"
unfoldable pub row_text : Row → List ℕ
row_text r = decimal r.place ++ (ascii " " ++ (decimal r.entries ++ (ascii " " ++ (clauses_text r.clauses ++ ascii "\n"))))

-- a line for each row
unfoldable pub rows_text : List Row → List ℕ
rows_text [] = []
rows_text (r ∷ rows) = row_text r ++ rows_text rows

-- a word, a number, `at`, a number
unfoldable pub number_at : List ℕ → ℕ → ℕ → List ℕ
number_at word number place = word ++ (decimal number ++ (ascii " at " ++ (decimal place ++ ascii "\n")))

-- the last line: "`reached`", "`short`, `stopped 24 at 1`, `full at 1`", "`refused N at P`, number and position"
unfoldable pub last_line : Verdict → List ℕ
last_line Reached = ascii "reached\n"
last_line Short = ascii "short\n"
last_line (Stopped place number) = number_at (ascii "stopped ") number place
last_line (Full place) = ascii "full at " ++ (decimal place ++ ascii "\n")
last_line (Refused number position) = number_at (ascii "refused ") number position

-- the whole output: the header and the rows, then the last line; "A refused sheet or start prints only `refused N at P`"
unfoldable pub text_of : Verdict → List Row → List ℕ
text_of verdict rows = cond (refused_verdict verdict) [] (ascii "place entries clauses\n" ++ rows_text rows) ++ last_line verdict

-- the whole output for a sheet, by a run with 65 rows
unfoldable pub output_of : Judgement → List ℕ
output_of sheet = text_of (run_of sheet most_places).verdict (rows_of sheet most_places)

-- ---- the call `report`: the output in a lent buffer of at least 8,192 bytes; a shorter one is left as it was
-- the length of the output, 0 in a buffer that is too short
unfoldable pub report_of : Judgement → ℕ → ℕ
report_of sheet lent = cond (ltb lent report_length) 0 (length (output_of sheet))

-- the buffer: the output, and later bytes as they were
unfoldable pub report_in : Judgement → List ℕ → List ℕ
report_in sheet buffer = cond (ltb (length buffer) report_length) buffer (output_of sheet ++ drop (length (output_of sheet)) buffer)
