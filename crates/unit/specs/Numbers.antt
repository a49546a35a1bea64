-- Answers, tables and rows as numbers.
use Rattle.std.specs.Prelude.{Err, Bool, ◌||◌, List, [], ◌∷◌, ◌++◌, ℕ, ltb, length, get_or, take, drop}
use Rattle.sheet.specs.Limits.{most_entries, table_numbers}
use Rattle.sheet.specs.Calls.{Answer, Accepted, number_of, position_of}
use Rattle.table.specs.declared.Table.{Table}
use Rattle.table.specs.Entries.{lent}
use Rattle.plan.specs.declared.Row.{Row}
use Rattle.plan.specs.declared.Verdict.{Verdict}
use Rattle.plan.specs.declared.Verdict.TheVariants as verdict
use Rattle.plan.specs.declared.Kind.{Kind}
use Rattle.plan.specs.declared.Kind.TheVariants as kind
use Rattle.plan.specs.Cases.{verdict_answer, verdict_place, verdict_number, kind_answer, kind_place}
use Rattle.unit.specs.declared.Reply.{Reply}

-- ---- answers
-- a number that an accepted call has, 0 for a refused one
unfoldable pub if_accepted : Answer → ℕ → ℕ
if_accepted Accepted extra = extra
if_accepted (Err fault) extra = 0

-- an answer by its number and position; `extra` is the second number of info if it is accepted
abbrev pub answer_reply : Answer → ℕ → Reply
answer_reply a extra = record { answer = number_of a; position = position_of a; kind = if_accepted a extra; place = 0; detail = 0 }

-- the kind of a verdict: reached 0, short 1, stopped 2, full 3; 0 for a refusal
unfoldable pub verdict_kind : Verdict → ℕ
verdict_kind verdict.Reached = 0
verdict_kind verdict.Short = 1
verdict_kind (verdict.Stopped place number) = 2
verdict_kind (verdict.Full place) = 3
verdict_kind (verdict.Refused number position) = 0

-- a verdict: its kind, and its place and number
abbrev pub verdict_reply : Verdict → Reply
verdict_reply v =
    record {
      answer = number_of (verdict_answer v);
      position = position_of (verdict_answer v);
      kind = verdict_kind v;
      place = verdict_place v;
      detail = verdict_number v;
    }

-- the kind of a search's end: reached 0, full 1, none 2; 0 for a refusal
unfoldable pub search_kind : Kind → ℕ
search_kind kind.Reached = 0
search_kind (kind.Full place) = 1
search_kind kind.Nothing = 2
search_kind (kind.Refused number position) = 0

-- the end of a search: its kind, its place, and the length of its plan
abbrev pub kind_reply : Kind → ℕ → Reply
kind_reply k size =
    record {
      answer = number_of (kind_answer k);
      position = position_of (kind_answer k);
      kind = search_kind k;
      place = kind_place k;
      detail = if_accepted (kind_answer k) size;
    }

-- info after a call: its first four numbers, and the others as they were
unfoldable pub info_of : Reply → List ℕ → List ℕ
info_of t info = t.position ∷ t.kind ∷ t.place ∷ t.detail ∷ drop 4 info

-- a slice of fewer numbers than `size`, or an info of fewer than 4
unfoldable pub too_short : ℕ → List ℕ → List ℕ → Bool
too_short size xs info = ltb (length xs) size || ltb (length info) 4

-- ---- tables
-- the table in the first 257 numbers: the count, the masks of true propositions, those of false ones
unfoldable pub table_in : List ℕ → Table
table_in xs = lent (get_or xs 0 0) (take most_entries (drop 1 xs)) (take most_entries (drop 129 xs))

-- a table as numbers, and the numbers after its 257 as they were
unfoldable pub table_out : Table → List ℕ → List ℕ
table_out t xs = t.count ∷ (t.trues ++ (t.falses ++ drop table_numbers xs))

-- ---- rows
-- the three numbers of a row
abbrev pub row_numbers : Row → List ℕ
row_numbers r = r.place ∷ r.entries ∷ r.clauses ∷ []
