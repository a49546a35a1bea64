-- Tables stored as numbers one after the other. For the functions of src/numbers.rt that read and write them. Assumes nothing.
use mathlib.Core.Path.{◌≡◌, refl, sym, ap, ap₂, subst, ◌∙◌}
use mathlib.Core.List.{List, [], ◌∷◌, ◌++◌, append_assoc}
use Prim.Native.Nat.{ℕ, ◌+◌, ◌^◌, ◌≤◌, ◌<◌}
use native.Mathlib.Nat.{not-suc-le-zero, le_refl}
use native.Mathlib.Omega.{arith}
use lib.ListN.{length, set, get_or, take, drop, replicate, length-set, take-append-drop}
use lib.Seq.{take_at, drop_at, drop-drop}
use borrow.Rule.Slice.PartMut.{put_mid}
use Rattle.sheet.specs.Limits.{table_numbers}
use Rattle.table.specs.declared.Table.{Table}
use Rattle.unit.specs.Numbers.{table_in, table_out}

-- ---- tables
-- the numbers of a table: a store, and two parts
pub table_puts : (t : Table) (xs : List ℕ) → table_numbers ≤ length xs → length t.trues ≡ 128 → length t.falses ≡ 128
    → put_mid 129 128 (put_mid 1 128 (set xs 0 t.count) t.trues) t.falses ≡ table_out t xs
unfolding table_out
table_puts t [] h p q = absurd (not-suc-le-zero h)
table_puts t (x ∷ ys) h p q =
    ap (λ (r : List ℕ). t.count ∷ r)
    (ap₂ (λ (r z : List ℕ). r ++ (t.falses ++ z)) (take_at t.trues (drop 128 ys) 128 p)
    (ap (drop 128) (drop_at t.trues (drop 128 ys) 128 p) ∙ drop-drop 128 128 ys))

-- a table that is read and written back
pub table_back : (xs : List ℕ) → table_numbers ≤ length xs → xs ≡ table_out (table_in xs) xs
unfolding table_out table_in
table_back [] h = absurd (not-suc-le-zero h)
table_back (x ∷ ys) h =
    ap (λ (r : List ℕ). x ∷ r)
    (sym (take-append-drop 128 ys)
    ∙ ap (λ (r : List ℕ). take 128 ys ++ r)
    (sym (take-append-drop 128 (drop 128 ys)) ∙ ap (λ (r : List ℕ). take 128 (drop 128 ys) ++ r) (drop-drop 128 128 ys)))
