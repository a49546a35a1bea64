-- What the search remembers: tables with marks, in slots of 258 numbers. Any numbers are such a memory; whether what it says is so, is
-- `Remembers`, which all numbers meet whose marks are 0.
use Rattle.std.specs.Prelude.{◌≡◌, List, ℕ, ◌+◌, ◌*◌, ◌≤◌, ◌<◌, length, get_or, take, drop}
use Rattle.sheet.specs.inner.Widths.{memory_slot}
use Rattle.sheet.specs.Limits.{most_entries}
use Rattle.sheet.specs.declared.Literals.{Literals}
use Rattle.sheet.specs.inner.Packed.{item_at}
use Rattle.table.specs.Entries.{entries_of}
use Rattle.plan.specs.declared.searches.Depth.{Depth}
use Rattle.plan.specs.inner.Movable.{Movable}
use Rattle.plan.specs.inner.Searches.{NoShorterFrom}

-- ---- a slot: its mark, how many entries, their masks
abbrev pub mark_in : List ℕ → ℕ
mark_in slot = get_or slot 0 0

unfoldable pub table_in : List ℕ → List Literals
table_in slot = entries_of (get_or slot 1 0) (take most_entries (drop 2 slot)) (take most_entries (drop 130 slot))

-- of every slot it is so: no plan of fewer moves than its mark is reached or full from its table
abbrev pub Remembers : List ℕ → ℕ → List ℕ → Type 0
Remembers packed count memory =
    (j : ℕ) → j * memory_slot + memory_slot ≤ length memory → NoShorterFrom packed count 0 (table_in (item_at memory_slot memory j))
    (mark_in (item_at memory_slot memory j))

-- what a search that is under way from the table es asks: moves, goal and table; at most eight moves; no answer by fewer; a memory of what
-- is so
pub record Underway (packed : List ℕ) (depth : Depth) (es : List Literals) (memory : List ℕ) : Type 0 where
  pub can : Movable packed depth.moves es
  pub most : depth.at + depth.left ≤ 8
  pub no_shorter : NoShorterFrom packed depth.moves depth.at es depth.left
  pub remembers : Remembers packed depth.moves memory

-- what trying one move asks: a search under way, with moves left, and one of the moves
pub record MoveUnderway (packed : List ℕ) (depth : Depth) (index : ℕ) (es : List Literals) (memory : List ℕ) : Type 0 where
  pub underway : Underway packed depth es memory
  pub some_left : 1 ≤ depth.left
  pub below : index < depth.moves

-- some slot has the table es, with a mark above `left`
pub record Recalls (memory : List ℕ) (es : List Literals) (left : ℕ) : Type 0 where
  pub slot : ℕ
  pub room : slot * memory_slot + memory_slot ≤ length memory
  pub above : left < mark_in (item_at memory_slot memory slot)
  pub alike : table_in (item_at memory_slot memory slot) ≡ es
