-- The requests of document 02 about tables, sentence by sentence: statements only, proved in proofs/Demands.
-- Words, in reading order: sheet/specs/Literals (`within`), Lists; beside this page Minimal (`put`), Fates (`last_within`, `fate_of`).
use Rattle.std.specs.Prelude.{◌≡◌, not, List, [], ◌∷◌, ◌++◌, ◌↔◌, ℕ, ◌<◌, T, length, get_or}
use Rattle.std.proofs.Math.Option.{none, some}
use Rattle.sheet.specs.declared.Literals.{Literals}
use Rattle.sheet.specs.Literals.{no_literal, within}
use Rattle.sheet.specs.Lists.{All}
use Rattle.std.specs.Prelude.{Some, None}
use Rattle.table.specs.declared.slots.Fate.TheVariants.{Dropped}
use Rattle.table.specs.Minimal.{put}
use Rattle.table.specs.Fates.{last_within, left, fate_of}

-- ---- W3: "a candidate is tested against the table from the last entry to the first, and this test gets a promise of its own":
-- `last_within` answers `last_within t c`. Any list t and any candidate c: t may be empty, longer than a table, and its entries may lie in
-- each other.
pub record RequestW3 (t : List Literals) (c : Literals) : Type 0 where
  -- "the last entry whose literals all lie in the candidate": the entry at i lies in it, none after it does
  pub last_within_lem : (i : ℕ) → (last_within t c ≡ Some i)
      ↔ ((i < length t) × T (within (get_or t i no_literal) c) × ((j : ℕ) → i < j → j < length t → T (not (within (get_or t j no_literal) c))))
  -- "or none exactly when there is none"
  pub last_none : (last_within t c ≡ None) ↔ All (λ e. T (not (within e c))) t
  -- the test is that of putting a candidate: it is dropped exactly if the test finds an entry
  pub dropped_found : (cap : ℕ) → (fate_of cap t c ≡ Dropped) ↔ ((i : ℕ) × (last_within t c ≡ Some i))
  -- "Tables, order and full tables come out as before", by document 01's rule: an entry was found, and the table is as it was
  pub kept : (cap i : ℕ) → last_within t c ≡ Some i → put cap t c ≡ some t
  -- none was found, and the entries that stay when those that contain the candidate go still fill the table
  pub full : (cap : ℕ) → last_within t c ≡ None → length (left t c) ≡ cap → put cap t c ≡ none
  -- none was found, and they do not: the candidate goes last
  pub added : (cap : ℕ) → last_within t c ≡ None → (length (left t c) ≡ cap → ⊥) → put cap t c ≡ some (left t c ++ c ∷ [])
