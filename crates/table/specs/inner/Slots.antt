-- Lists of literal sets in two arrays of masks, over any capacity: what contracts ask of the arrays, and what a list holds after a candidate.
use Rattle.std.specs.Prelude.{◌≡◌, List, ℕ, ◌≤◌, length}
use Rattle.std.proofs.Math.Option.{Option, none, some}
use Rattle.sheet.specs.Limits.{most_entries}
use Rattle.sheet.specs.declared.Literals.{Literals}
use Rattle.sheet.specs.Lists.{pad}
use Rattle.table.specs.Minimal.{put}
use Rattle.table.specs.Entries.{trues_of, falses_of, entries_of}

-- ---- what contracts ask of two arrays
-- so many slots or more
pub record Room (count : ℕ) (ts fs : List ℕ) : Type 0 where
  pub trues : count ≤ length ts
  pub falses : count ≤ length fs

-- the slots of a table, any numbers in them
pub record TableRoom (ts fs : List ℕ) : Type 0 where
  pub trues : length ts ≡ most_entries
  pub falses : length fs ≡ most_entries

-- ---- a list of sets in them
-- the count and the arrays ts, fs of capacity cap hold es, with zeros after it
pub record Holds (cap : ℕ) (es : List Literals) (count : ℕ) (ts fs : List ℕ) : Type 0 where
  pub count_is : count ≡ length es
  pub room : count ≤ cap
  pub trues_are : ts ≡ pad cap 0 (trues_of es)
  pub falses_are : fs ≡ pad cap 0 (falses_of es)

-- the slots after so many entries are zero
abbrev pub Held : ℕ → ℕ → List ℕ → List ℕ → Type 0
Held cap count ts fs = Holds cap (entries_of count ts fs) count ts fs

-- the list, or s where it is full
unfoldable pub or_else : List Literals → Option (List Literals) → List Literals
or_else s none = s
or_else s (some r) = r

-- the list after a candidate; as it was where it is full
unfoldable pub list_after : ℕ → List Literals → Literals → List Literals
list_after cap s c = or_else s (put cap s c)
