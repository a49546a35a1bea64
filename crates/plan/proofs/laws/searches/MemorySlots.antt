-- What a slot of the memory says of its table (`Remembers`), what is recalled, entered and tried, and a slot that is written. For the
-- functions of `memory` and for `searches::try_plans`. Assumes nothing.
use mathlib.Core.Path.{◌≡◌, sym, ap, subst, ◌∙◌}
use mathlib.Core.List.{List}
use Prim.Native.Nat.{ℕ, ◌+◌, ◌*◌, ◌≤◌, ◌<◌}
use native.Mathlib.Nat.{not-suc-le-zero}
use native.Mathlib.Omega.{arith}
use native.Mathlib.Decide.{ℕ_discrete}
use lib.ListN.{length, get_or, take, drop}
use lib.Seq.{get_or-take, get_or-drop, ext_get_or}
use Rattle.sheet.specs.declared.Literals.{Literals}
use Rattle.sheet.specs.Literals.{no_literal}
use Rattle.sheet.specs.inner.Packed.{item_at, sets_in, action_of, goal_in, moves_in}
use Rattle.sheet.proofs.laws.reader.PackedParts.{item_anew, item_anew_long, item_same, item_other}
use Rattle.table.specs.Entries.{entries_of}
use Rattle.table.proofs.laws.arrays.HeldLists.{length_entries_of, get_d_entries_of}
use Rattle.plan.specs.Search.{nothing}
use Rattle.plan.specs.inner.Searches.{first_from, NoShorterFrom}
use Rattle.plan.specs.inner.Memory.{mark_in, table_in, Remembers, Recalls}
use Rattle.plan.proofs.laws.searches.NoShorterPlans.{quiet_place, quiet_none, quiet_more}

-- ---- what the slots say
module _ (packed : List ℕ) (count : ℕ) where
  -- what is recalled need not be tried
  pub skip : {memory : List ℕ} {es : List Literals} {left : ℕ} (at : ℕ) → Remembers packed count memory → Recalls memory es left
      → first_from (sets_in (goal_in packed)) (action_of (moves_in packed)) count at es left ≡ nothing
  skip {memory} {es} {left} at h r =
      quiet_none (sets_in (goal_in packed)) (action_of (moves_in packed)) count es at (mark_in (item_at 258 memory r.slot)) left
      (quiet_place (sets_in (goal_in packed)) (action_of (moves_in packed)) count es 0 at (mark_in (item_at 258 memory r.slot))
      (subst (λ (x : List Literals). NoShorterFrom packed count 0 x (mark_in (item_at 258 memory r.slot))) r.alike
      (h r.slot r.room)))
      r.above

  -- what is entered after all shorter plans is known
  pub entered : (es : List Literals) (at left : ℕ) → NoShorterFrom packed count at es left → NoShorterFrom packed count 0 es left
  entered es at left h = quiet_place (sets_in (goal_in packed)) (action_of (moves_in packed)) count es at 0 left h

  -- what was tried without an answer is known for one move more
  pub tried : (es : List Literals) (at left : ℕ) → NoShorterFrom packed count at es left
      → first_from (sets_in (goal_in packed)) (action_of (moves_in packed)) count at es left ≡ nothing
      → NoShorterFrom packed count 0 es (left + 1)
  tried es at left h e =
      quiet_place (sets_in (goal_in packed)) (action_of (moves_in packed)) count es at 0 (left + 1)
      (quiet_more (sets_in (goal_in packed)) (action_of (moves_in packed)) count es at left h e)

  -- by what is in a slot
  pub known_in : (slot : List ℕ) (es : List Literals) (mark : ℕ) → mark_in slot ≡ mark → table_in slot ≡ es
      → NoShorterFrom packed count 0 es mark
      → NoShorterFrom packed count 0 (table_in slot) (mark_in slot)
  known_in slot es mark a b h =
      subst (λ (x : List Literals). NoShorterFrom packed count 0 x (mark_in slot)) (sym b)
      (subst (λ (m : ℕ). NoShorterFrom packed count 0 es m) (sym a) h)

  -- where no slot has a mark, nothing is said
  pub blank : (memory : List ℕ) → ((j : ℕ) → j * 258 + 258 ≤ length memory → mark_in (item_at 258 memory j) ≡ 0)
      → Remembers packed count memory
  blank memory h j l q i s = absurd (not-suc-le-zero (subst (λ (m : ℕ). length q < m) (h j l) s))

-- ---- a slot that is written
-- mark, count and the first i of the entries es stand in it
pub record Laid (slot : List ℕ) (es : List Literals) (mark i : ℕ) : Type 0 where
  pub long : length slot ≡ 258
  pub mark_is : get_or slot 0 0 ≡ mark
  pub count_is : get_or slot 1 0 ≡ length es
  pub trues_are : (k : ℕ) → k < i → get_or slot (2 + k) 0 ≡ (get_or es k no_literal).trues
  pub falses_are : (k : ℕ) → k < i → get_or slot (130 + k) 0 ≡ (get_or es k no_literal).falses

pub laid_table : {slot : List ℕ} {es : List Literals} {mark i : ℕ} → Laid slot es mark i → length es ≤ 128 → length es ≤ i
    → table_in slot ≡ es
unfolding table_in
laid_table {slot} {es} {mark} {i} h l e = ext_get_or no_literal (entries_of n ts fs) es (length_entries_of n ts fs ∙ h.count_is) same
  where
    n : ℕ
    n = get_or slot 1 0

    ts : List ℕ
    ts = take 128 (drop 2 slot)

    fs : List ℕ
    fs = take 128 (drop 130 slot)

    same : (k : ℕ) → k < length (entries_of n ts fs) → get_or (entries_of n ts fs) k no_literal ≡ get_or es k no_literal
    same k b =
        let c : k < n = omega (arith, b, length_entries_of n ts fs) in
        let d : k < length es = omega (arith, c, h.count_is) in
        get_d_entries_of n ts fs k c
        ∙ (λ j. record {
          trues = (get_or-take 128 (drop 2 slot) k 0 (omega (arith, d, l))
              ∙ get_or-drop 2 slot k 0 ∙ h.trues_are k (omega (arith, d, e))) j;
          falses = (get_or-take 128 (drop 130 slot) k 0 (omega (arith, d, l)) ∙ get_or-drop 130 slot k 0
              ∙ h.falses_are k (omega (arith, d, e))) j;
        })

-- ---- one slot of a memory written anew
module _ (xs slot : List ℕ) (j : ℕ) (room : j * 258 + 258 ≤ length xs) (long : length slot ≡ 258) where
  abbrev put : List ℕ
  put = item_anew xs slot 258 j

  -- what every slot said, every slot says still, if the new one says what is known
  pub kept_by : (packed : List ℕ) (count : ℕ) → Remembers packed count xs → NoShorterFrom packed count 0 (table_in slot) (mark_in slot)
      → Remembers packed count put
  kept_by packed count h g i l = go (ℕ_discrete i j)
    where
      go : Dec (i ≡ j) → NoShorterFrom packed count 0 (table_in (item_at 258 put i)) (mark_in (item_at 258 put i))
      go (yes e) = subst (λ (s : List ℕ). NoShorterFrom packed count 0 (table_in s) (mark_in s))
          (sym (ap (item_at 258 put) e ∙ item_same xs slot 258 j room long)) g
      go (no ne) =
          let r : i * 258 + 258 ≤ length xs = omega (arith, l, item_anew_long xs slot 258 j room long) in
          subst (λ (s : List ℕ). NoShorterFrom packed count 0 (table_in s) (mark_in s)) (sym (item_other xs slot 258 j room long i ne))
          (h i r)

-- ---- marks at the heads of the slots
pub mark_head : (memory : List ℕ) (j : ℕ) → mark_in (item_at 258 memory j) ≡ get_or memory (j * 258) 0
unfolding item_at
mark_head memory j = let e : j * 258 + 0 ≡ j * 258 = omega arith in
    get_or-take 258 (drop (j * 258) memory) 0 0 (omega arith) ∙ get_or-drop (j * 258) memory 0 0 ∙ ap (λ (k : ℕ). get_or memory k 0) e
