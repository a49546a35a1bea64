-- The run of a sheet's bytes as a course: refused for its fault or for too few rows, else that of its problem. For
-- `runs::course_into` and `runs::run_sheet`. Assumes nothing.
use mathlib.Core.Path.{◌≡◌, sym, ap, ◌∙◌}
use mathlib.Core.Bool.{Bool, true, false, cond}
use mathlib.Core.List.{List, []}
use Prim.Native.Nat.{ℕ, ◌≤◌, ◌<◌}
use lib.Dec.{ltb}
use borrow.Author.Tests.{lt-ltb, le-ltb}
use Rattle.sheet.specs.Problem.{Statement}
use Rattle.sheet.specs.Format.{Judgement, accepted, refused as faulty, sheet_of}
use Rattle.table.specs.Minimal.{Outcome}
use Rattle.table.specs.Start.{start_table}
use Rattle.sheet.specs.declared.Literals.{Literals}
use Rattle.plan.specs.declared.Counts.{Counts}
use Rattle.plan.specs.declared.Course.{Course}
use Rattle.plan.specs.declared.Verdict.TheVariants.{Refused}
use Rattle.plan.specs.Calls.{refused_run, planned, run_of, planned_rows, rows_of}
use Rattle.plan.specs.inner.Course.{counts_of, course_of, course_in, refused_course, planned_course}

-- a refusal leaves no entry and no row
pub refusal_is : {es : List Literals} {c : Counts} (k p : ℕ) → es ≡ [] → c ≡ counts_of []
    → course_in (Refused k p) es c ≡ refused_course k p
unfolding refused_course refused_run
refusal_is k p e f = λ j. course_in (Refused k p) (e j) (f j)

module _ (s : List ℕ) (x : Statement) (e : sheet_of s ≡ accepted x) (lent : ℕ) where
  abbrev start : Outcome
  start = start_table 128 x.problem

  -- by whether the rows are too few
  abbrev by_rows : Bool → Course
  by_rows b = record {
    ran = cond b (refused_run 23 0) (planned x.problem x.plan start);
    counts = counts_of (cond b [] (planned_rows x.problem x.plan start));
  }

  by_rows_lem : (b : Bool) → ltb lent 65 ≡ b → by_rows b ≡ course_of (sheet_of s) lent
  unfolding course_of run_of rows_of
  by_rows_lem b l = sym (ap (λ (j : Judgement). course_of j lent) e ∙ ap by_rows l)

  pub course_few : lent < 65 → refused_course 23 0 ≡ course_of (sheet_of s) lent
  unfolding refused_course
  course_few lt = by_rows_lem true (lt-ltb lent 65 lt)

  pub course_run : 65 ≤ lent → planned_course x.problem x.plan start ≡ course_of (sheet_of s) lent
  unfolding planned_course
  course_run le = by_rows_lem false (le-ltb lent 65 le)

pub course_fault : (s : List ℕ) (k p lent : ℕ) → sheet_of s ≡ faulty k p → refused_course k p ≡ course_of (sheet_of s) lent
unfolding course_of run_of rows_of refused_course
course_fault s k p lent e = sym (ap (λ (j : Judgement). course_of j lent) e)
