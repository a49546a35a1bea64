-- Compaction in place: the members that pass move up, and the slots behind them are zero. For `Slots::remove`. Assumes nothing.
use mathlib.Core.Path.{◌≡◌, sym, ap, ap₂, ◌∙◌}
use mathlib.Core.Bool.{Bool, true, false}
use mathlib.Core.List.{List, [], ◌∷◌, ◌++◌, map, map-append, append_assoc}
use Prim.Native.Nat.{ℕ, suc, ◌+◌, ◌≤◌, ◌<◌}
use native.Mathlib.Numerals.{add-one}
use native.Mathlib.Omega.{arith}
use lib.ListN.{length, get_or, take, drop, set, length-append, length-map}
use lib.Seq.{take_all, length-take-le, drop-cons, set_at, get_or_at, set-append_left}
use Rattle.sheet.specs.declared.Literals.{Literals}
use Rattle.sheet.specs.Literals.{no_literal}
use Rattle.sheet.specs.Lists.{keep, pad}
use Rattle.sheet.proofs.laws.base.Padding.{pad_set, length_pad, pad_suc, pad_over, pad_front}
use Rattle.table.specs.Entries.{trues_of, falses_of, entries_of}
use Rattle.table.specs.inner.Slots.{Holds, Held}
use Rattle.table.proofs.laws.arrays.KeptMembers.{keep_length, keep_more, keep_less}
use Rattle.table.proofs.laws.arrays.HeldLists.{stored, length_entries_of, get_d_entries_of, holds_trues_long, holds_falses_long}

-- ---- one array

-- slot i is made zero
zeroed : (xs old : List ℕ) (i : ℕ) → length xs ≤ i → i < length old → set (pad i 0 xs ++ drop i old) i 0 ≡ pad (i + 1) 0 xs
    ++ drop (i + 1) old
zeroed xs old i h lt =
    rw (add-one, drop-cons old i 0 lt, set_at (pad i 0 xs) (get_or old i 0) (drop (suc i) old) 0 i (length_pad i 0 xs), ← pad_suc i 0 xs h)
    (sym (append_assoc (pad i 0 xs) (0 ∷ []) (drop (suc i) old)))

-- slot k, the first that is free, is written
written : (f : Literals → ℕ) (es : List Literals) (e : Literals) (rest : List ℕ) (i k : ℕ) → k ≡ length es → k < i
    → set (pad i 0 (map f es) ++ rest) k (f e) ≡ pad i 0 (map f (es ++ e ∷ [])) ++ rest
written f es e rest i k q lt =
    let p : k < length (pad i 0 (map f es)) = omega (arith, length_pad i 0 (map f es)) in
    set-append_left (pad i 0 (map f es)) rest k (f e) p
    ∙ ap (λ (r : List ℕ). r ++ rest)
    (pad_set i 0 (map f es) (f e) k (length-map es f ∙ sym q) lt ∙ ap (pad i 0) (sym (map-append f es (e ∷ []))))

-- what stands in slot i is as it was
unread : (xs old : List ℕ) (i : ℕ) → i < length old → get_or (pad i 0 xs ++ drop i old) i 0 ≡ get_or old i 0
unread xs old i lt = rw (drop-cons old i 0 lt) (get_or_at (pad i 0 xs) (get_or old i 0) (drop (suc i) old) 0 i (length_pad i 0 xs))

-- ---- a loop over the slots below n: those below i are done, and k members are kept

pub record Moved (f : Literals → Bool) (n : ℕ) (ts₀ fs₀ : List ℕ) (ts fs : List ℕ) (k i : ℕ) : Type 0 where
  pub upto : i ≤ n
  pub behind : k ≤ i
  pub count_is : k ≡ length (keep f (take i (entries_of n ts₀ fs₀)))
  pub trues_are : ts ≡ pad i 0 (trues_of (keep f (take i (entries_of n ts₀ fs₀)))) ++ drop i ts₀
  pub falses_are : fs ≡ pad i 0 (falses_of (keep f (take i (entries_of n ts₀ fs₀)))) ++ drop i fs₀

module _ (f : Literals → Bool) {cap n : ℕ} {ts₀ fs₀ : List ℕ} (held : Held cap n ts₀ fs₀) where
  trues_long₀ : length ts₀ ≡ cap
  trues_long₀ = holds_trues_long held

  falses_long₀ : length fs₀ ≡ cap
  falses_long₀ = holds_falses_long held

  -- the first i entries, all of them kept, stand where they are
  pub moved_start : (i : ℕ) → i ≤ n → keep f (take i (entries_of n ts₀ fs₀)) ≡ take i (entries_of n ts₀ fs₀) → Moved f n ts₀ fs₀ ts₀ fs₀ i i
  moved_start i le kept = record {
    upto = le;
    behind = omega arith;
    count_is = sym (ap length kept ∙ length-take-le i (entries_of n ts₀ fs₀) (inside_up le));
    trues_are = stand (λ (e : Literals). e.trues) held.trues_are;
    falses_are = stand (λ (e : Literals). e.falses) held.falses_are;
  }
    where
      inside_up : i ≤ n → i ≤ length (entries_of n ts₀ fs₀)
      inside_up h = omega (arith, length_entries_of n ts₀ fs₀)

      stand : (g : Literals → ℕ) {xs : List ℕ} → xs ≡ pad cap 0 (map g (entries_of n ts₀ fs₀))
          → xs ≡ pad i 0 (map g (keep f (take i (entries_of n ts₀ fs₀)))) ++ drop i xs
      stand g h =
          h
          ∙ pad_front g i cap 0 (entries_of n ts₀ fs₀) (inside_up le) (omega (arith, length_entries_of n ts₀ fs₀, held.room))
          ∙ ap₂ (λ (x : List Literals) (r : List ℕ). pad i 0 (map g x) ++ drop i r) (sym kept) (sym h)

  module _ {ts fs : List ℕ} {k i : ℕ} (m : Moved f n ts₀ fs₀ ts fs k i) where
    -- the set in slot i, which is not read yet
    pub moved_read : i < n → get_or (entries_of n ts₀ fs₀) i no_literal ≡ stored ts fs i
    moved_read lt =
        let a : i < length ts₀ = omega (arith, held.room, trues_long₀) in
        let b : i < length fs₀ = omega (arith, held.room, falses_long₀) in
        let p : get_or ts i 0 ≡ get_or ts₀ i 0 = ap (λ (l : List ℕ). get_or l i 0) m.trues_are ∙ unread _ ts₀ i a in
        let q : get_or fs i 0 ≡ get_or fs₀ i 0 = ap (λ (l : List ℕ). get_or l i 0) m.falses_are ∙ unread _ fs₀ i b in
        get_d_entries_of n ts₀ fs₀ i lt ∙ sym (λ j. record { trues = p j; falses = q j })

    abbrev kept : List Literals
    kept = keep f (take i (entries_of n ts₀ fs₀))

    inside : i < n → i < length (entries_of n ts₀ fs₀)
    inside lt = omega (arith, length_entries_of n ts₀ fs₀)

    -- slot i is made zero, in both
    zero_trues : i < n → set ts i 0 ≡ pad (i + 1) 0 (trues_of kept) ++ drop (i + 1) ts₀
    zero_trues lt =
        ap (λ (l : List ℕ). set l i 0) m.trues_are
        ∙ zeroed (trues_of kept) ts₀ i (omega (arith, m.count_is, m.behind, length-map kept (λ (e : Literals). e.trues)))
        (omega (arith, held.room, trues_long₀))

    zero_falses : i < n → set fs i 0 ≡ pad (i + 1) 0 (falses_of kept) ++ drop (i + 1) fs₀
    zero_falses lt =
        ap (λ (l : List ℕ). set l i 0) m.falses_are
        ∙ zeroed (falses_of kept) fs₀ i (omega (arith, m.count_is, m.behind, length-map kept (λ (e : Literals). e.falses)))
        (omega (arith, held.room, falses_long₀))

    pub moved_gone : i < n → f (stored ts fs i) ≡ false
        → Moved f n ts₀ fs₀ (set ts i 0) (set fs i 0) k (i + 1)
    moved_gone lt t =
        let s : keep f (take (i + 1) (entries_of n ts₀ fs₀)) ≡ kept = keep_less f (entries_of n ts₀ fs₀) i _ (inside lt) (moved_read lt) t
        in
        record {
          upto = omega arith;
          behind = omega (arith, m.behind);
          count_is = m.count_is ∙ sym (ap length s);
          trues_are = zero_trues lt ∙ ap (λ (x : List Literals). pad (i + 1) 0 (trues_of x) ++ drop (i + 1) ts₀) (sym s);
          falses_are = zero_falses lt ∙ ap (λ (x : List Literals). pad (i + 1) 0 (falses_of x) ++ drop (i + 1) fs₀) (sym s);
        }

    pub moved_kept : i < n → f (stored ts fs i) ≡ true
        → Moved f n ts₀ fs₀ (set (set ts i 0) k (get_or ts i 0)) (set (set fs i 0) k (get_or fs i 0)) (k + 1) (i + 1)
    moved_kept lt t =
        let e : Literals = stored ts fs i in
        let s : keep f (take (i + 1) (entries_of n ts₀ fs₀)) ≡ kept
        ++ e ∷ [] = keep_more f (entries_of n ts₀ fs₀) i e (inside lt) (moved_read lt) t in
        let b : k < i + 1 = omega (arith, m.behind) in
        record {
          upto = omega arith;
          behind = omega (arith, m.behind);
          count_is = omega (arith, m.count_is, ap length s, length-append kept (e ∷ []));
          trues_are =
              ap (λ (l : List ℕ). set l k (get_or ts i 0)) (zero_trues lt)
              ∙ written (λ (x : Literals). x.trues) kept e (drop (i + 1) ts₀) (i + 1) k m.count_is b
              ∙ ap (λ (x : List Literals). pad (i + 1) 0 (trues_of x) ++ drop (i + 1) ts₀) (sym s);
          falses_are =
              ap (λ (l : List ℕ). set l k (get_or fs i 0)) (zero_falses lt)
              ∙ written (λ (x : Literals). x.falses) kept e (drop (i + 1) fs₀) (i + 1) k m.count_is b
              ∙ ap (λ (x : List Literals). pad (i + 1) 0 (falses_of x) ++ drop (i + 1) fs₀) (sym s);
        }

    pub moved_end : n ≤ i → Holds cap (keep f (entries_of n ts₀ fs₀)) k ts fs
    moved_end le = record {
      count_is = m.count_is ∙ ap (λ (x : List Literals). length (keep f x)) whole;
      room = omega (arith, m.behind, held.room);
      trues_are = over (λ (e : Literals). e.trues) ts ts₀ m.trues_are held.trues_are;
      falses_are = over (λ (e : Literals). e.falses) fs fs₀ m.falses_are held.falses_are;
    }
      where
        es : List Literals
        es = entries_of n ts₀ fs₀

        whole : take i es ≡ es
        whole = take_all i es (omega (arith, length_entries_of n ts₀ fs₀))

        over : (g : Literals → ℕ) (xs old : List ℕ) → xs ≡ pad i 0 (map g (keep f (take i es))) ++ drop i old
            → old ≡ pad cap 0 (map g es) → xs ≡ pad cap 0 (map g (keep f es))
        over g xs old p q =
            let j : i ≡ n = omega (arith, m.upto) in
            p
            ∙ ap (λ (x : List Literals). pad i 0 (map g (keep f x)) ++ drop i old) whole
            ∙ ap (λ (x : ℕ). pad x 0 (map g (keep f es)) ++ drop x old) j
            ∙ ap (λ (x : List ℕ). pad n 0 (map g (keep f es)) ++ drop n x) q
            ∙ pad_over n cap 0 (map g (keep f es)) (map g es)
            (omega (arith, keep_length f es, length_entries_of n ts₀ fs₀, length-map (keep f es) g))
            (length-map es g ∙ length_entries_of n ts₀ fs₀) held.room

-- the same at equal values
pub moved_is : {f : Literals → Bool} {n : ℕ} {ts₀ fs₀ ts fs ts' fs' : List ℕ} {k k' i : ℕ} → ts' ≡ ts → fs' ≡ fs → k' ≡ k
    → Moved f n ts₀ fs₀ ts fs k i → Moved f n ts₀ fs₀ ts' fs' k' i
moved_is p q r m = rw (p, q, r) m
