-- The text of the run with the numbers of its rows is the output for the sheet. For the call `report`; `report_within` for plan_cases and
-- check_main. Assumes nothing.
use mathlib.Core.Path.{◌≡◌, ap, ◌∙◌}
use mathlib.Core.Bool.{Bool, true, false, cond}
use mathlib.Core.List.{List, ◌++◌}
use Prim.Native.Nat.{ℕ, ◌≤◌, ◌<◌}
use native.Mathlib.Omega.{arith}
use lib.Dec.{ltb}
use lib.ListN.{length, drop, length-append}
use borrow.Author.Tests.{lt-ltb, le-ltb}
use Rattle.sheet.specs.Format.{Judgement, sheet_of}
use Rattle.plan.specs.declared.Course.{Course}
use Rattle.plan.specs.Calls.{run_of, rows_of}
use Rattle.plan.specs.inner.Course.{counts_of, course_of}
use Rattle.plan.specs.inner.Rows.{rows_in}
use Rattle.plan.specs.Text.{text_of, output_of, report_of, report_in}
use Rattle.plan.specs.inner.Writing.{WroteFirst}
use Rattle.plan.proofs.laws.rows.RowCounts.{rows_placed, counts_back}

-- a run has at most 65 rows
pub few_rows : (s : List ℕ) (k : Course) → k ≡ course_of (sheet_of s) 65 → k.counts.count ≤ 65
unfolding course_of counts_of
few_rows s k e = rw e (rows_placed s 65).most

-- the text of the run is the output for the sheet
text_output : (s : List ℕ) → text_of (course_of (sheet_of s) 65).ran.verdict (rows_in (course_of (sheet_of s) 65).counts) ≡ output_of
    (sheet_of s)
unfolding course_of output_of
text_output s = let p = rows_placed s 65 in ap (text_of (run_of (sheet_of s) 65).verdict)
    (counts_back (rows_of (sheet_of s) 65) p.most p.places)

-- what the call gives and writes
pub reports : (s : List ℕ) (k : Course) → k ≡ course_of (sheet_of s) 65 → (b : List ℕ) (r : ℕ) (e : List ℕ) → 8192 ≤ length b
    → WroteFirst b (text_of k.ran.verdict (rows_in k.counts)) r e → (r ≡ report_of (sheet_of s) (length b)) × (e ≡ report_in (sheet_of s) b)
unfolding report_of report_in
reports s k q b r e h f =
    let t : text_of k.ran.verdict (rows_in k.counts) ≡ output_of (sheet_of s) = ap
    (λ (x : Course). text_of x.ran.verdict (rows_in x.counts)) q ∙ text_output s in
    let w : WroteFirst b (output_of (sheet_of s)) r e = rw t at f in (
      rw (le-ltb (length b) 8192 h) w.place,
      rw (le-ltb (length b) 8192 h) (w.bytes ∙ ap (λ (m : ℕ). output_of (sheet_of s) ++ drop m b) w.place),
    )

-- a buffer that is too short
pub no_report : (s b : List ℕ) → length b < 8192 → (0 ≡ report_of (sheet_of s) (length b)) × (b ≡ report_in (sheet_of s) b)
unfolding report_of report_in
no_report s b h = (rw (lt-ltb (length b) 8192 h), rw (lt-ltb (length b) 8192 h))

-- the output lies within the buffer
pub report_within : (j : Judgement) (b e : List ℕ) (r : ℕ) → r ≡ report_of j (length b) → e ≡ report_in j b → r ≤ length e
unfolding report_of report_in
report_within j b e r p q = within (ltb (length b) 8192) p q
  where
    within : (t : Bool) → r ≡ cond t 0 (length (output_of j)) → e ≡ cond t b (output_of j ++ drop (length (output_of j)) b) → r ≤ length e
    within true p q = omega arith
    within false p q = omega (arith, ap length q, length-append (output_of j) (drop (length (output_of j)) b))
