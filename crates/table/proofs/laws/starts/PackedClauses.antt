-- Clauses in an array, 17 numbers each: one clause after the other, the sections of a sheet. For `starts::grow_all` and
-- `starts::first_into`. Assumes nothing.
use mathlib.Core.Path.{◌≡◌, ap, ◌∙◌}
use mathlib.Core.List.{List, [], ◌∷◌, map}
use Prim.Native.Nat.{ℕ, ◌+◌, ◌-◌, ◌*◌, ◌≤◌, ◌<◌}
use native.Mathlib.Omega.{arith}
use lib.ListN.{length, get_or, take, drop}
use Rattle.sheet.specs.declared.Literals.{Literals}
use Rattle.sheet.specs.declared.Sheet.{Sheet}
use Rattle.sheet.specs.inner.Packed.{clauses_at, sets_in, SetsFit, item_at, ors_in, oneofs_in}
use Rattle.sheet.specs.inner.Decoded.{Filled}
use Rattle.sheet.proofs.laws.reader.PackedParts.{items_step, items_end, sets_long, item_of_all, item_lent, part_long}
use Rattle.sheet.proofs.laws.reader.ReadSheets.{ors_few, oneofs_few}
use Rattle.table.specs.declared.starts.Kind.{Kind}
use Rattle.table.specs.inner.Starts.{clause_of, ClausesFit}

sets_count : (xs : List ℕ) → length (sets_in xs) ≡ get_or xs 0 0
unfolding sets_in
sets_count xs = sets_long (get_or xs 0 0) (drop 1 xs)

-- ---- the numbers of a clause, as a borrow of them says it
abbrev pub clause_item : List ℕ → ℕ → List ℕ
clause_item xs i = take (i * 17 + 17 - i * 17) (drop (i * 17) xs)

pub clause_fits : (n : ℕ) (xs : List ℕ) (i : ℕ) → ClausesFit n xs → i < n → SetsFit (clause_item xs i)
unfolding item_at
clause_fits n xs i fit h =
    let p = item_of_all 17 sets_in (λ (c : List Literals). length c ≤ 8) n xs i h fit.few in
    rw (item_lent 17 i xs) (part_long (i * 17) 17 xs (omega (arith, fit.room)), omega (arith, p, sets_count (item_at 17 xs i)))

-- ---- the clauses from i on, one after the other
module _ (k : Kind) (n : ℕ) (xs : List ℕ) (i : ℕ) where
  pub clauses_step : {alts : List Literals} → i < n → alts ≡ sets_in (clause_item xs i)
      → map (clause_of k) (drop i (clauses_at n xs)) ≡ clause_of k alts ∷ map (clause_of k) (drop (i + 1) (clauses_at n xs))
  clauses_step lt e = ap (map (clause_of k)) (items_step 17 sets_in n xs i _ lt (e ∙ ap sets_in (item_lent 17 i xs)))

  pub clauses_end : n ≤ i → map (clause_of k) (drop i (clauses_at n xs)) ≡ []
  clauses_end le = ap (map (clause_of k)) (items_end 17 sets_in n xs i le)

-- ---- the clauses of a sheet that was read, in their sections
module _ (x : Sheet) (packed : List ℕ) (h : Filled x packed) where
  pub ors_fit : ClausesFit x.ors (ors_in packed)
  ors_fit =
      let f = ors_few x packed h.proper in
      record { room = omega (arith, f.0, part_long 0 136 packed (omega (arith, h.long))); few = f.1 }

  pub oneofs_fit : ClausesFit x.oneofs (oneofs_in packed)
  oneofs_fit =
      let f = oneofs_few x packed h.proper in
      record { room = omega (arith, f.0, part_long 136 136 packed (omega (arith, h.long))); few = f.1 }
