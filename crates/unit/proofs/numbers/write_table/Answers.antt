-- `numbers::write_table` meets its contract: a store and two copies. Assumes nothing.
use Rattle.std.proofs.Common.{◌≡◌, ◌≤◌, List, ℕ, length, set, sym, ap, ◌∙◌, arith, subst}
use borrow.Rule.Slice.PartMut.{put_mid}
use Rattle.sheet.specs.declared.Literals.{Literals}
use Rattle.sheet.proofs.laws.base.Padding.{length_pad}
use Rattle.table.specs.Entries.{table_of}
use Rattle.table.specs.declared.Table.{Table}
use Rattle.unit.specs.Numbers.{table_out}
use Rattle.unit.proofs.StoredNumbers.{table_puts}
use Rattle.unit.proofs.numbers.write_table.Goals as goal

-- the table t of a list, its masks as they were copied
stored : (es : List Literals) (t : Table) (xs ts fs : List ℕ) (n : ℕ) → 257 ≤ length xs → n ≡ length es → t ≡ table_of es
    → ts ≡ t.trues → fs ≡ t.falses
    → put_mid 129 128 (put_mid 1 128 (set xs 0 n) ts) fs ≡ table_out (table_of es) xs
unfolding table_of
stored es t xs ts fs n h c e p q =
    (λ k. put_mid 129 128 (put_mid 1 128 (set xs 0 (c k)) ((p ∙ ap (λ (u : Table). u.trues) e) k)) ((q ∙ ap (λ (u : Table). u.falses) e) k))
    ∙ table_puts (table_of es) xs h (length_pad 128 0 _) (length_pad 128 0 _)

pub returns : goal.returns
returns c =
    stored _ _ _ _ _ _ c.requires c.len.ensures.count c.from-table.ensures c.copy_from_slice.ensures.after c.copy_from_slice-2.ensures.after
