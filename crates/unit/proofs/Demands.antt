-- What the numbers of a table are: one that was written is read back; a refused step leaves every number, a refused start or run zeros.
-- A refused run leaves the numbers of every row, a refused search zeros for its plan.
-- Assumes nothing.
use mathlib.Core.Path.{◌≡◌, refl, sym, ap, ◌∙◌}
use mathlib.Core.List.{List, [], ◌∷◌, ◌++◌}
use Prim.Native.Nat.{ℕ, ◌+◌, ◌*◌, ◌/◌, ◌≤◌}
use native.Mathlib.Omega.{arith}
use lib.ListN.{length, get_or, take, drop, replicate, take-append-drop}
use lib.Seq.{drop-cons, drop-drop, take_at, drop_at}
use Rattle.sheet.specs.Limits.{table_numbers}
use Rattle.sheet.specs.Calls.{Refused}
use Rattle.sheet.specs.Lists.{pad, collect}
use Rattle.sheet.specs.Format.{sheet_of}
use Rattle.table.specs.declared.Table.{Table}
use Rattle.table.specs.Entries.{table_of}
use Rattle.table.specs.Calls.{start_of, step_of}
use Rattle.table.proofs.Demands.{start_back, step_back}
use Rattle.plan.specs.declared.Row.{Row}
use Rattle.plan.specs.declared.Verdict.TheVariants as ran
use Rattle.plan.specs.declared.Kind.TheVariants as kind
use Rattle.plan.specs.Calls.{run_of, search_of}
use Rattle.plan.proofs.laws.runs.RunRefusals.{run_none, run_back}
use Rattle.plan.proofs.laws.searches.SearchRefusals.{search_back}
use Rattle.unit.specs.Numbers.{table_in, table_out, row_numbers}
use Rattle.unit.specs.Calls.{run_table, rows_with, rows_out}

-- ---- a table that was written is read back
pub table_again : (t : Table) (xs : List ℕ) → length t.trues ≡ 128 → length t.falses ≡ 128 → table_in (table_out t xs) ≡ t
unfolding table_in table_out
table_again t xs p q =
    let rest = t.falses ++ drop table_numbers xs in
    λ k. record {
      count = t.count;
      trues = take_at t.trues rest 128 p k;
      falses = (ap (take 128) (drop_at t.trues rest 128 p) ∙ take_at t.falses (drop table_numbers xs) 128 q) k;
    }

-- ---- numbers that were read as a table and are written again are as they were, whatever they are
pub table_kept : (xs : List ℕ) → table_numbers ≤ length xs → table_out (table_in xs) xs ≡ xs
unfolding table_in table_out
table_kept xs h =
    ap (λ (r : List ℕ). get_or xs 0 0 ∷ (take 128 (drop 1 xs) ++ r)) (joined 129)
    ∙ ap (λ (r : List ℕ). get_or xs 0 0 ∷ r) (joined 1)
    ∙ sym (drop-cons xs 0 0 (omega arith))
  where
    joined : (n : ℕ) → take 128 (drop n xs) ++ drop (n + 128) xs ≡ drop n xs
    joined n = ap (λ (r : List ℕ). take 128 (drop n xs) ++ r) (sym (drop-drop 128 n xs)) ∙ take-append-drop 128 (drop n xs)

-- a refused step leaves every number
pub step_kept : (s xs : List ℕ) (m number position : ℕ) → table_numbers ≤ length xs
    → (step_of (sheet_of s) (table_in xs) m).answer ≡ Refused number position
    → table_out (step_of (sheet_of s) (table_in xs) m).table xs ≡ xs
step_kept s xs m number position h e = ap (λ (t : Table). table_out t xs) (step_back s (table_in xs) m number position e) ∙ table_kept xs h

-- ---- no table: 257 zeros
pub no_table : (xs : List ℕ) → table_out (table_of []) xs ≡ replicate table_numbers 0 ++ drop table_numbers xs
unfolding table_out table_of pad
no_table xs = refl

-- a refused start gives them
pub start_zeros : (s xs : List ℕ) (number position : ℕ) → (start_of (sheet_of s)).answer ≡ Refused number position
    → table_out (start_of (sheet_of s)).table xs ≡ replicate table_numbers 0 ++ drop table_numbers xs
start_zeros s xs number position e = ap (λ (t : Table). table_out t xs) (start_back s number position e) ∙ no_table xs

-- a refused run gives them too
module _ (s rows : List ℕ) (number position : ℕ) (refused : (run_of (sheet_of s) (length rows / 3)).verdict ≡ ran.Refused number position)
  where
    pub run_zeros : (xs : List ℕ) → table_out (run_table s rows) xs ≡ replicate table_numbers 0 ++ drop table_numbers xs
    unfolding run_table
    run_zeros xs = ap (λ (t : Table). table_out t xs) (run_back s (length rows / 3) number position refused) ∙ no_table xs

    -- and keeps the rows
    pub run_rows_kept : rows_out s rows ≡ rows
    unfolding rows_out rows_with
    run_rows_kept = ap (λ (r : List Row). collect row_numbers r ++ drop (3 * length r) rows)
        (run_none (sheet_of s) (length rows / 3) number position refused).1

-- ---- a refused search gives eight zeros for its plan
pub search_zeros : (s xs : List ℕ) (limit number position : ℕ) → (search_of (sheet_of s) limit).kind ≡ kind.Refused number position
    → (search_of (sheet_of s) limit).plan ++ drop 8 xs ≡ replicate 8 0 ++ drop 8 xs
search_zeros s xs limit number position e = ap (λ (plan : List ℕ). plan ++ drop 8 xs) (search_back s limit number position e).0
