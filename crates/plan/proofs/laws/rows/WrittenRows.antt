-- Rows stored one after the other from the front: the list is then these rows, and the rest as it was. For `rows::write_rows`. Assumes
-- nothing.
use mathlib.Core.Path.{◌≡◌, refl, sym, ap, ◌∙◌}
use Prim.Native.Nat.{ℕ, zero, suc, ◌+◌, ◌<◌}
use native.Mathlib.Numerals.{add-one}
use native.Mathlib.Omega.{arith}
use mathlib.Core.List.{[], List, ◌∷◌, ◌++◌}
use lib.ListN.{length, get_or, set, drop, length-append}
use lib.Seq.{drop-cons, set_at, append_snoc}
use Rattle.plan.specs.declared.Row.{Row}
use Rattle.plan.specs.declared.Counts.{Counts}
use Rattle.plan.specs.inner.Rows.{row_at, rows_below}

length_below : (c : Counts) (n : ℕ) → length (rows_below c n) ≡ n
length_below c zero = refl
length_below c (suc n) = omega (arith, length-append (rows_below c n) (row_at c n ∷ []), length_below c n)

-- the row of the next place
pub written_more : (c : Counts) (n : ℕ) (ys : List Row) → n < length ys
    → set (rows_below c n ++ drop n ys) n (row_at c n) ≡ rows_below c (n + 1) ++ drop (n + 1) ys
written_more c n ys lt =
    let r = row_at c n in
    rw add-one
    (ap (λ (zs : List Row). set (rows_below c n ++ zs) n r) (drop-cons ys n r lt)
    ∙ set_at (rows_below c n) (get_or ys n r) (drop (suc n) ys) r n (length_below c n)
    ∙ sym (append_snoc (rows_below c n) r (drop (suc n) ys)))
