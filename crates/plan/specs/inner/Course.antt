-- A run with its rows as plain numbers: what the call `run` writes into the rows, and the program `check` into its text.
use Rattle.std.specs.Prelude.{List, [], ◌++◌, map, ℕ, ◌+◌, length, set}
use Rattle.sheet.specs.Limits.{most_entries, most_places}
use Rattle.sheet.specs.declared.Literals.{Literals}
use Rattle.sheet.specs.Lists.{pad}
use Rattle.sheet.specs.Format.{Judgement}
use Rattle.sheet.specs.Problem.{Action, Problem}
use Rattle.table.specs.Minimal.{Outcome}
use Rattle.table.specs.Picture.{picture, size_of}
use Rattle.table.specs.Entries.{table_of}
use Rattle.plan.specs.declared.Row.{Row}
use Rattle.plan.specs.declared.Counts.{Counts}
use Rattle.plan.specs.declared.Course.{Course}
use Rattle.plan.specs.declared.Verdict.{Verdict}
use Rattle.plan.specs.Run.{run_from, last_table, rows_from}
use Rattle.plan.specs.Calls.{verdict_of, refused_run, planned, planned_rows, run_of, rows_of}

-- the numbers of some rows, in slots with zeros after them
unfoldable pub counts_of : List Row → Counts
counts_of rows = record {
  count = length rows;
  entries = pad most_places 0 (map (λ r. r.entries) rows);
  clauses = pad most_places 0 (map (λ r. r.clauses) rows);
}

-- the run on a sheet with so many rows lent
unfoldable pub course_of : Judgement → ℕ → Course
course_of sheet lent = record { ran = run_of sheet lent; counts = counts_of (rows_of sheet lent) }

-- what a run over lent values leaves: its verdict, the entries of its last table, and the numbers of its rows
abbrev pub course_in : Verdict → List Literals → Counts → Course
course_in verdict es counts = record { ran = record { verdict = verdict; table = table_of es }; counts = counts }

-- ---- its parts
-- one row more, of the table t
unfoldable pub noted : Counts → List Literals → Counts
noted c t =
    record {
      count = c.count + 1;
      entries = set c.entries c.count (length t);
      clauses = set c.clauses c.count (size_of (picture t));
    }

-- a refusal: no table, and no row
unfoldable pub refused_course : ℕ → ℕ → Course
refused_course number position = record { ran = refused_run number position; counts = counts_of [] }

-- the rest of a plan from the table t, `place` moves already taken, after some rows
unfoldable pub course_from : List Literals → List Row → ℕ → List Action → List Literals → Course
course_from goal rows place plan t =
    record {
      ran = record { verdict = verdict_of (run_from most_entries goal place plan t); table = table_of (last_table most_entries plan t) };
      counts = counts_of (rows ++ rows_from most_entries place plan t);
    }

-- any plan of a problem, from what its start gave
unfoldable pub planned_course : Problem → List ℕ → Outcome → Course
planned_course p plan start = record { ran = planned p plan start; counts = counts_of (planned_rows p plan start) }
