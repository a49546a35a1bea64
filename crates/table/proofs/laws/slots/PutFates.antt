-- The three fates of a candidate that is put: dropped, added, no room. For `Slots::put`, `Slots::offer`, `Slots::offer_by_newest` and W3
-- (proofs/Demands). Assumes nothing.
use Prim.Native.Nat.{ℕ, ◌+◌, ◌-◌, ◌≤◌}
use mathlib.Core.Path.{◌≡◌, refl, sym, ap, ap₂, ◌∙◌}
use mathlib.Core.Bool.{Bool, true, false, not, cond}
use mathlib.Core.List.{List, [], ◌∷◌, ◌++◌}
use mathlib.Core.Option.{Option, none, some}
use native.Mathlib.Omega.{arith}
use lib.ListN.{length}
use lib.Dec.{eqb}
use borrow.Author.Tests.{eq-eqb, ne_eqb}
use Rattle.std.specs.Prelude.{Ok, Err}
use Rattle.sheet.specs.declared.Literals.{Literals}
use Rattle.sheet.specs.Literals.{within}
use Rattle.sheet.specs.Lists.{any_of}
use Rattle.sheet.proofs.laws.base.Bools.{true_T}
use Rattle.table.specs.declared.slots.Fate.{Fate}
use Rattle.table.specs.declared.slots.Fate.TheVariants.{Dropped, Added, Full}
use Rattle.table.specs.declared.slots.Full.{Full as SlotsFull}
use Rattle.table.specs.Worlds.{and_then}
use Rattle.table.specs.Minimal.{put_last, put_new, put, put_all}
use Rattle.table.specs.Fates.{left, fate_of}
use Rattle.table.specs.inner.Slots.{or_else, list_after}
use Rattle.table.specs.inner.Puts.{Puts}
use Rattle.table.proofs.laws.arrays.KeptMembers.{keep_length, keep_all}

abbrev is_dropped : Fate → Bool
is_dropped Dropped = true
is_dropped (Added r k) = false
is_dropped Full = false

-- the list us after a candidate, or none where it is full
abbrev pub put_as : Fate → List Literals → Option (List Literals)
put_as Dropped us = some us
put_as (Added removed count) us = some us
put_as Full us = none

module _ (cap : ℕ) (es : List Literals) (l : Literals) where
  abbrev pub some_within : Bool
  some_within = any_of (λ e. within e l) es

  abbrev pub no_room : Bool
  no_room = eqb (length (left es l)) cap

  pub put_dropped : some_within ≡ true → put cap es l ≡ some es
  unfolding put
  put_dropped s = ap (λ (b : Bool). put_new b cap es l) s

  pub put_full : some_within ≡ false → no_room ≡ true → put cap es l ≡ none
  unfolding put
  put_full s q =
      ap (λ (b : Bool). put_new b cap es l) s ∙ ap (λ (b : Bool). put_last b (left es l) l) q

  pub put_added : some_within ≡ false → no_room ≡ false → put cap es l ≡ some (left es l ++ l ∷ [])
  unfolding put
  put_added s q =
      ap (λ (b : Bool). put_new b cap es l) s ∙ ap (λ (b : Bool). put_last b (left es l) l) q

  abbrev pub added : Fate
  added = Added (length es - length (left es l)) (length (left es l) + 1)

  pub fate_dropped : some_within ≡ true → fate_of cap es l ≡ Dropped
  unfolding fate_of
  fate_dropped s = ap (λ (b : Bool). cond b Dropped (cond no_room Full added)) s

  pub fate_full : some_within ≡ false → no_room ≡ true → fate_of cap es l ≡ Full
  unfolding fate_of
  fate_full s q = ap (λ (b : Bool). cond b Dropped (cond no_room Full added)) s ∙ ap (λ (b : Bool). cond b Full added) q

  pub fate_added : some_within ≡ false → no_room ≡ false → fate_of cap es l ≡ added
  unfolding fate_of
  fate_added s q = ap (λ (b : Bool). cond b Dropped (cond no_room Full added)) s ∙ ap (λ (b : Bool). cond b Full added) q

  -- dropped only where some entry lies in the candidate
  pub dropped_within : fate_of cap es l ≡ Dropped → some_within ≡ true
  dropped_within e = at some_within no_room refl refl
    where
      at : (a b : Bool) → some_within ≡ a → no_room ≡ b → some_within ≡ true
      at true b p q = p
      at false true p q = absurd (true_T false (ap is_dropped (sym (fate_full p q) ∙ e)))
      at false false p q = absurd (true_T false (ap is_dropped (sym (fate_added p q) ∙ e)))

  pub after_dropped : some_within ≡ true → list_after cap es l ≡ es
  unfolding list_after or_else
  after_dropped s = ap (or_else es) (put_dropped s)

  after_full : some_within ≡ false → no_room ≡ true → list_after cap es l ≡ es
  unfolding list_after or_else
  after_full s q = ap (or_else es) (put_full s q)

  after_added : some_within ≡ false → no_room ≡ false → list_after cap es l ≡ left es l ++ l ∷ []
  unfolding list_after or_else
  after_added s q = ap (or_else es) (put_added s q)

  -- what putting gives, by the fate and the list after it
  pub put_fated : put cap es l ≡ put_as (fate_of cap es l) (list_after cap es l)
  put_fated = at some_within no_room refl refl
    where
      both_known : (f : Fate) (us : List Literals) → fate_of cap es l ≡ f → list_after cap es l ≡ us
          → put_as f us ≡ put_as (fate_of cap es l) (list_after cap es l)
      both_known f us p q = sym (ap₂ put_as p q)

      at : (a b : Bool) → some_within ≡ a → no_room ≡ b → put cap es l ≡ put_as (fate_of cap es l) (list_after cap es l)
      at true b p q = put_dropped p ∙ both_known _ _ (fate_dropped p) (after_dropped p)
      at false true p q = put_full p q ∙ both_known _ _ (fate_full p q) (after_full p q)
      at false false p q = put_added p q ∙ both_known _ _ (fate_added p q) (after_added p q)

  -- ---- the members that do not contain the candidate are left, k of n
  module _ {rest : List Literals} {n k : ℕ} (is : rest ≡ left es l) (before : n ≡ length es) (remaining : k ≡ length rest) where
    pub fewer : k ≤ n
    fewer = omega (arith, ap length is, keep_length (λ e. not (within l e)) es)

    module _ (s : some_within ≡ false) where
      full_is : k ≡ cap → no_room ≡ true
      full_is e = eq-eqb _ _ (sym (remaining ∙ ap length is) ∙ e)

      pub full_fate : k ≡ cap → Full ≡ fate_of cap es l
      full_fate e = sym (fate_full s (full_is e))

      pub full_after : k ≡ cap → n ≤ cap → rest ≡ list_after cap es l
      full_after e most =
          is ∙ keep_all _ es (omega (arith, ap length is)) ∙ sym (after_full s (full_is e))

      room_is : (k ≡ cap → ⊥) → no_room ≡ false
      room_is e = ne_eqb _ _ (λ z. e (remaining ∙ ap length is ∙ z))

      pub added_fate : (k ≡ cap → ⊥) → Added (n - k) (k + 1) ≡ fate_of cap es l
      added_fate e = ap₂ (λ (x y : ℕ). Added (x - y) (y + 1)) before (remaining ∙ ap length is) ∙ sym (fate_added s (room_is e))

      pub added_after : (k ≡ cap → ⊥) → rest ++ l ∷ [] ≡ list_after cap es l
      added_after e = ap (λ (x : List Literals). x ++ l ∷ []) is ∙ sym (after_added s (room_is e))

-- ---- one candidate alone

put_all_one : (cap : ℕ) (s : List Literals) (c : Literals) → put_all cap (c ∷ []) s ≡ put cap s c
put_all_one cap s c = at (put cap s c)
  where
    at : (o : Option (List Literals)) → and_then o (λ r. some r) ≡ o
    at none = refl
    at (some r) = refl

module _ (cap : ℕ) (es : List Literals) (c : Literals) {f : Fate} {us : List Literals}
    (value : f ≡ fate_of cap es c) (list : us ≡ list_after cap es c) where
  gives : put_all cap (c ∷ []) es ≡ put_as f us
  gives = put_all_one cap es c ∙ put_fated cap es c ∙ sym (ap₂ put_as value list)

  pub offered_full : {full : SlotsFull} → f ≡ Full → Puts cap (c ∷ []) es (Err full) us
  offered_full e = record { grew = gives ∙ ap (λ (x : Fate). put_as x us) e }

  pub offered : (f ≡ Full → ⊥) → Puts cap (c ∷ []) es (Ok tt) us
  offered e = record { grew = gives ∙ room f e }
    where
      room : (x : Fate) → (x ≡ Full → ⊥) → put_as x us ≡ some us
      room Dropped e = refl
      room (Added removed count) e = refl
      room Full e = absurd (e refl)

-- a candidate that some member lies in changes nothing
pub already_there : {cap : ℕ} {es : List Literals} {c : Literals} → any_of (λ e. within e c) es ≡ true → Puts cap (c ∷ []) es (Ok tt) es
already_there {cap} {es} {c} s = record { grew = put_all_one cap es c ∙ put_dropped cap es c s }
