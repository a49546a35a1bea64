-- The rows of a run are back from their numbers: they have the places 0, 1, 2, .., and are at most 65 and no more than were lent. For the
-- calls `run` and `report`, and for unit. Assumes nothing.
use mathlib.Core.Path.{◌≡◌, refl, sym, ap, ◌∙◌}
use mathlib.Core.Bool.{Bool, true, false, cond}
use mathlib.Core.List.{List, [], ◌++◌, map}
use Prim.Native.Nat.{ℕ, zero, suc, ◌≤◌, ◌<◌}
use native.Mathlib.Nat.{le_refl, zero-add}
use native.Mathlib.Omega.{arith}
use borrow.Author.Tests.{ltb-false}
use lib.Dec.{ltb}
use lib.ListN.{length, get_or, take, drop, length-map, get_or-map}
use lib.Seq.{take-suc, take-length}
use Rattle.sheet.specs.declared.Literals.{Literals}
use Rattle.sheet.specs.Problem.{Action, Statement}
use Rattle.sheet.specs.Format.{Judgement, accepted, refused, sheet_of}
use Rattle.table.specs.Minimal.{Outcome, refused as no_table, table}
use Rattle.table.specs.Start.{start_table}
use Rattle.table.specs.Calls.{action_at}
use Rattle.sheet.proofs.laws.base.Padding.{get_d_pad}
use Rattle.plan.specs.declared.Row.{Row}
use Rattle.plan.specs.declared.Counts.{Counts}
use Rattle.plan.specs.Run.{actions_of, row_of, rows_from}
use Rattle.plan.specs.Calls.{planned_rows, rows_of, rows_after}
use Rattle.plan.specs.inner.Course.{counts_of, course_of}
use Rattle.plan.specs.inner.Rows.{row_at, rows_below, rows_in}
use Rattle.plan.proofs.laws.runs.RunTables.{arrived, rows_length, row_at_lem, taken_within}
use Rattle.sheet.proofs.Demands.{statement_proper}

-- a row for a place that has none
abbrev no_row : Row
no_row = record { place = 0; entries = 0; clauses = 0 }

-- rows of the places 0, 1, 2, .., at most 65, where m are lent
pub record Placed (m : ℕ) (ws : List Row) : Type 0 where
  pub most : length ws ≤ 65
  pub lent : length ws ≤ m
  pub places : (i : ℕ) → i < length ws → (get_or ws i no_row).place ≡ i

-- ---- the rows of a run
none_placed : (m : ℕ) → Placed m []
none_placed m = record { most = omega arith; lent = omega arith; places = λ i h. absurd (omega (arith, h)) }

run_placed : (plan : List Action) (t : List Literals) (m : ℕ) → length plan ≤ 64 → 65 ≤ m → Placed m (rows_from 128 0 plan t)
run_placed plan t m h k =
    let l = rows_length 128 0 plan t in
    let w = taken_within 128 plan t in
    record {
      most = omega (arith, l, w, h);
      lent = omega (arith, l, w, h, k);
      places = λ i b.
          let u = (arrived 128 plan t i).0 (omega (arith, b, l)) in
          unfold row_of in ap (λ (r : Row). r.place) (row_at_lem 128 0 plan t i u.0 no_row u.1) ∙ zero-add i;
    }

start_placed : (x : Statement) (o : Outcome) (m : ℕ) → length x.plan ≤ 64 → 65 ≤ m → Placed m (planned_rows x.problem x.plan o)
unfolding planned_rows actions_of
start_placed x (no_table number) m h k = none_placed m
start_placed x (table t) m h k = run_placed (actions_of x.problem x.plan) t m (rw (length-map x.plan (action_at x.problem)) h) k

pub rows_placed : (s : List ℕ) (m : ℕ) → Placed m (rows_of (sheet_of s) m)
unfolding rows_of
rows_placed s m = go (sheet_of s) refl
  where
    enough : (x : Statement) (b : Bool) → length x.plan ≤ 64 → ltb m 65 ≡ b
        → Placed m (cond b [] (planned_rows x.problem x.plan (start_table 128 x.problem)))
    enough x true h e = none_placed m
    enough x false h e = start_placed x (start_table 128 x.problem) m h (ltb-false m 65 e)

    go : (j : Judgement) → sheet_of s ≡ j → Placed m (rows_of j m)
    go (refused number position) e = none_placed m
    go (accepted x) e = enough x (ltb m 65) (statement_proper s x e).plan.most refl

-- ---- rows back from their numbers
module _ (ws : List Row) (most : length ws ≤ 65) (places : (i : ℕ) → i < length ws → (get_or ws i no_row).place ≡ i) where
  row_back : (i : ℕ) → i < length ws → row_at (counts_of ws) i ≡ get_or ws i no_row
  unfolding counts_of
  row_back i h =
      let e = get_d_pad 65 0 (map (λ (r : Row). r.entries) ws) i (omega (arith, h, most))
      ∙ get_or-map (λ (r : Row). r.entries) ws i no_row in
      let c = get_d_pad 65 0 (map (λ (r : Row). r.clauses) ws) i (omega (arith, h, most))
      ∙ get_or-map (λ (r : Row). r.clauses) ws i no_row in
      (λ j. record { place = sym (places i h) j; entries = e j; clauses = c j })

  below_back : (n : ℕ) → n ≤ length ws → rows_below (counts_of ws) n ≡ take n ws
  below_back zero h = refl
  below_back (suc n) h = rw (below_back n (omega (arith, h)), row_back n h) (sym (take-suc ws n no_row h))

  pub counts_back : rows_in (counts_of ws) ≡ ws
  unfolding counts_of
  counts_back = below_back (length ws) (le_refl (length ws)) ∙ take-length ws

-- ---- the rows that the call writes
module _ (s : List ℕ) (ys : List Row) where
  abbrev numbers : Counts
  numbers = (course_of (sheet_of s) (length ys)).counts

  pub course_few : (numbers.count ≤ length ys) × (numbers.count ≤ 65)
  unfolding course_of counts_of
  course_few = let p = rows_placed s (length ys) in (p.lent, p.most)

  pub course_rows : rows_in numbers ++ drop numbers.count ys ≡ rows_after (sheet_of s) ys
  unfolding course_of counts_of rows_after
  course_rows = let p = rows_placed s (length ys) in ap (λ (ws : List Row). ws ++ drop numbers.count ys)
      (counts_back (rows_of (sheet_of s) (length ys)) p.most p.places)
