-- Rows written as three numbers each: one after the other, and those of a run. For `numbers::write_row_numbers` and `krepuskilo_run`.
-- Assumes nothing.
use mathlib.Core.Path.{◌≡◌, refl, sym, ap, ap₂, subst, ◌∙◌}
use mathlib.Core.List.{List, [], ◌∷◌, ◌++◌}
use Prim.Native.Nat.{ℕ, zero, suc, ◌+◌, ◌*◌, ◌/◌, ◌≤◌}
use native.Mathlib.Numerals.{add-one}
use native.Mathlib.Omega.{arith}
use lib.ListN.{length, set, take, drop, length-append, length-drop}
use lib.Seq.{take_at, drop-drop, drop-append-add, sets-eq}
use Rattle.sheet.specs.Lists.{collect}
use Rattle.sheet.specs.Format.{sheet_of}
use Rattle.plan.specs.declared.Row.{Row}
use Rattle.plan.specs.declared.Counts.{Counts}
use Rattle.plan.specs.declared.Course.{Course}
use Rattle.plan.specs.Calls.{rows_of}
use Rattle.plan.specs.inner.Course.{counts_of, course_of}
use Rattle.plan.specs.inner.Rows.{row_at, rows_below, rows_in}
use Rattle.plan.proofs.laws.searches.PlanOrder.{collect_append}
use Rattle.plan.proofs.laws.rows.RowCounts.{rows_placed, counts_back}
use Rattle.unit.specs.Numbers.{row_numbers}
use Rattle.unit.specs.Calls.{rows_with, rows_out}

-- the numbers of the rows of the places below i
abbrev pub numbers : Counts → ℕ → List ℕ
numbers c i = collect row_numbers (rows_below c i)

more : (c : Counts) (i : ℕ) → numbers c (suc i) ≡ numbers c i ++ row_numbers (row_at c i)
more c i = collect_append row_numbers (rows_below c i) (row_at c i ∷ [])

long : (c : Counts) (i : ℕ) → length (numbers c i) ≡ 3 * i
long c zero = refl
long c (suc i) = ap length (more c i) ∙ omega (arith, length-append (numbers c i) (row_numbers (row_at c i)), long c i)

-- the numbers of the next row, after those of the rows below it
pub numbered_more : (c : Counts) (b : List ℕ) (i : ℕ) (rows : List ℕ) → rows ≡ numbers c i ++ drop (3 * i) b → 3 * i + 3 ≤ length b
    → {row : Row} → row ≡ row_at c i
    → set (set (set rows (3 * i) row.place) (3 * i + 1) row.entries) (3 * i + 2) row.clauses ≡ numbers c (i + 1) ++ drop (3 * (i + 1)) b
numbered_more c b i rows is room {row} e =
    let p = numbers c i in
    let vs = row_numbers (row_at c i) in
    let l : length p ≡ 3 * i = long c i in
    let one : 3 * i + 1 ≡ suc (3 * i) = omega arith in
    let two : 3 * i + 2 ≡ suc (suc (3 * i)) = omega arith in
    let at : 3 * i + 3 ≡ 3 * (i + 1) = omega arith in
    let n : length rows ≡ length b = omega (arith, ap length is, length-append p (drop (3 * i) b), length-drop (3 * i) b, l, room) in
    (λ k. set (set (set rows (3 * i) (e k).place) (one k) (e k).entries) (two k) (e k).clauses)
    ∙ sets-eq vs rows (3 * i) (omega (arith, room, n))
    ∙ ap (λ (z : List ℕ). take (3 * i) z ++ vs ++ drop (3 * i + 3) z) is
    ∙ ap₂ (λ (x y : List ℕ). x ++ vs ++ y) (take_at p (drop (3 * i) b) (3 * i) l)
    (ap (λ (k : ℕ). drop (k + 3) (p ++ drop (3 * i) b)) (sym l) ∙ drop-append-add p (drop (3 * i) b) 3 ∙ drop-drop 3 (3 * i) b
    ∙ ap (λ (k : ℕ). drop k b) at)
    ∙ ap (λ (x : List ℕ). x ++ drop (3 * (i + 1)) b) (sym (ap (numbers c) (add-one i) ∙ more c i))

-- ---- the rows of a run
module _ (s rows : List ℕ) (r : Course) (is : r ≡ course_of (sheet_of s) (length rows / 3)) where
  pub rows_room : (r.counts.count ≤ 65) × (3 * r.counts.count ≤ length rows)
  unfolding course_of counts_of
  rows_room =
      let p = rows_placed s (length rows / 3) in
      subst (λ (x : Course). (x.counts.count ≤ 65) × (3 * x.counts.count ≤ length rows)) (sym is) (p.most, omega (arith, p.lent))

  pub rows_out_lem : (after : List ℕ) → after ≡ collect row_numbers (rows_in r.counts) ++ drop (3 * r.counts.count) rows
      → after ≡ rows_out s rows
  unfolding course_of counts_of rows_out rows_with
  rows_out_lem after e =
      let p = rows_placed s (length rows / 3) in
      let ws = rows_of (sheet_of s) (length rows / 3) in
      e ∙ ap (λ (x : Course). collect row_numbers (rows_in x.counts) ++ drop (3 * x.counts.count) rows) is
      ∙ ap (λ (x : List Row). collect row_numbers x ++ drop (3 * length ws) rows) (counts_back ws p.most p.places)
