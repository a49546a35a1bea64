-- Arrays of masks that hold a list, with zeros after it: what is stored, read and pushed, over every capacity. For every function that has
-- a table in arrays, and for the crate plan. Assumes nothing.
use mathlib.Core.Path.{◌≡◌, refl, sym, ap, ◌∙◌, subst}
use mathlib.Core.List.{List, [], ◌∷◌, ◌++◌, map, map-append}
use Prim.Native.Nat.{ℕ, zero, suc, ◌+◌, ◌≤◌, ◌<◌}
use native.Mathlib.Omega.{arith}
use native.Mathlib.Nat.{le_of_suc-le-suc, not-suc-le-zero, suc-ne-zero, suc_inj}
use lib.ListN.{length, get_or, set, take, replicate, length-map, length-append, length-set}
use Rattle.std.proofs.lemmas.List.{map-set}
use Rattle.sheet.specs.declared.Literals.{Literals}
use Rattle.sheet.specs.Literals.{no_literal}
use Rattle.sheet.specs.Lists.{pad}
use Rattle.table.specs.Entries.{pairs, trues_of, falses_of, entries_of, table_of, lent}
use Rattle.table.specs.inner.Slots.{Room, Holds, Held}
use Rattle.sheet.proofs.laws.base.Padding.{length_pad, pad_nil, get_d_pad, pad_pad, pad_set}

-- ---- two arrays side by side
-- what stands at i
abbrev pub stored : List ℕ → List ℕ → ℕ → Literals
stored ts fs i = record { trues = get_or ts i 0; falses = get_or fs i 0 }

pub length_pairs : (n : ℕ) (ts fs : List ℕ) → length ts ≡ n → length fs ≡ n → length (pairs ts fs) ≡ n
unfolding pairs
length_pairs n [] fs p q = p
length_pairs zero (t ∷ ts) fs p q = absurd (suc-ne-zero (length ts) p)
length_pairs (suc n) (t ∷ ts) [] p q = q
length_pairs (suc n) (t ∷ ts) (f ∷ fs) p q = ap suc (length_pairs n ts fs (suc_inj p) (suc_inj q))

pub length_entries_of : (n : ℕ) (ts fs : List ℕ) → length (entries_of n ts fs) ≡ n
unfolding entries_of
length_entries_of n ts fs = length_pairs n (pad n 0 ts) (pad n 0 fs) (length_pad n 0 ts) (length_pad n 0 fs)

-- a place below the count is one of an entry
pub inside : (n : ℕ) (ts fs : List ℕ) {i : ℕ} → i < n → i < length (entries_of n ts fs)
inside n ts fs h = omega (arith, length_entries_of n ts fs)

pub get_d_pairs : (n : ℕ) (ts fs : List ℕ) (i : ℕ) → length ts ≡ n → length fs ≡ n → i < n
    → get_or (pairs ts fs) i no_literal ≡ stored ts fs i
unfolding pairs
get_d_pairs zero ts fs i p q h = absurd (not-suc-le-zero h)
get_d_pairs (suc n) [] fs i p q h = absurd (suc-ne-zero n (sym p))
get_d_pairs (suc n) (t ∷ ts) [] i p q h = absurd (suc-ne-zero n (sym q))
get_d_pairs (suc n) (t ∷ ts) (f ∷ fs) zero p q h = refl
get_d_pairs (suc n) (t ∷ ts) (f ∷ fs) (suc i) p q h = get_d_pairs n ts fs i (suc_inj p) (suc_inj q) (le_of_suc-le-suc h)

front_of : (n : ℕ) (xs : List ℕ) → n ≤ length xs → take n xs ≡ pad n 0 xs
unfolding pad
front_of zero xs h = refl
front_of (suc n) [] h = absurd (not-suc-le-zero h)
front_of (suc n) (x ∷ xs) h = ap (λ (r : List ℕ). x ∷ r) (front_of n xs (le_of_suc-le-suc h))

-- the first slots side by side are the entries
pub pairs_front : (n : ℕ) (ts fs : List ℕ) → Room n ts fs → pairs (take n ts) (take n fs) ≡ entries_of n ts fs
unfolding entries_of
pairs_front n ts fs r = λ k. pairs (front_of n ts r.trues k) (front_of n fs r.falses k)

-- entry i is what stands at i in the two arrays
pub get_d_entries_of : (n : ℕ) (ts fs : List ℕ) (i : ℕ) → i < n
    → get_or (entries_of n ts fs) i no_literal ≡ stored ts fs i
unfolding entries_of
get_d_entries_of n ts fs i h =
    get_d_pairs n (pad n 0 ts) (pad n 0 fs) i (length_pad n 0 ts) (length_pad n 0 fs) h
    ∙ (λ k. record { trues = get_d_pad n 0 ts i h k; falses = get_d_pad n 0 fs i h k })

pairs_of : (es : List Literals) → pairs (trues_of es) (falses_of es) ≡ es
unfolding pairs
pairs_of [] = refl
pairs_of (e ∷ es) = ap (λ (r : List Literals). e ∷ r) (pairs_of es)

-- the entries of padded arrays are those that were padded
pub entries_of_pad : (n : ℕ) (es : List Literals) → length es ≤ n
    → entries_of (length es) (pad n 0 (trues_of es)) (pad n 0 (falses_of es)) ≡ es
unfolding entries_of
entries_of_pad n es h =
    let ts : pad (length es) 0 (pad n 0 (trues_of es)) ≡ trues_of es = pad_back (λ (e : Literals). e.trues) in
    let fs : pad (length es) 0 (pad n 0 (falses_of es)) ≡ falses_of es = pad_back (λ (e : Literals). e.falses) in
    (λ k. pairs (ts k) (fs k)) ∙ pairs_of es
  where
    pad_back : (f : Literals → ℕ) → pad (length es) 0 (pad n 0 (map f es)) ≡ map f es
    pad_back f = rw (← length-map es f) (pad_pad n 0 (map f es) (rw (length-map es f) h))

set_pad : (k : ℕ) (xs : List ℕ) (j v : ℕ) → j < length xs → set (pad k 0 xs) j v ≡ pad k 0 (set xs j v)
unfolding pad
set_pad zero xs j v b = refl
set_pad (suc k) [] j v b = absurd (not-suc-le-zero b)
set_pad (suc k) (x ∷ xs) zero v b = refl
set_pad (suc k) (x ∷ xs) (suc j) v b = ap (λ (r : List ℕ). x ∷ r) (set_pad k xs j v (le_of_suc-le-suc b))

-- ---- what holds a list
module _ {cap : ℕ} {es : List Literals} {n : ℕ} {ts fs : List ℕ} (h : Holds cap es n ts fs) where
  pub holds_trues_long : length ts ≡ cap
  holds_trues_long = ap length h.trues_are ∙ length_pad cap 0 (trues_of es)

  pub holds_falses_long : length fs ≡ cap
  holds_falses_long = ap length h.falses_are ∙ length_pad cap 0 (falses_of es)

  -- one entry more
  pub holds_push : n < cap → (l : Literals) → Holds cap (es ++ l ∷ []) (n + 1) (set ts n l.trues) (set fs n l.falses)
  holds_push lt l = record {
    count_is = omega (arith, h.count_is, length-append es (l ∷ []));
    room = omega arith;
    trues_are = ap (λ (r : List ℕ). set r n l.trues) h.trues_are ∙ pushed (λ (e : Literals). e.trues);
    falses_are = ap (λ (r : List ℕ). set r n l.falses) h.falses_are ∙ pushed (λ (e : Literals). e.falses);
  }
    where
      pushed : (f : Literals → ℕ) → set (pad cap 0 (map f es)) n (f l) ≡ pad cap 0 (map f (es ++ l ∷ []))
      pushed f =
          pad_set cap 0 (map f es) (f l) n (length-map es f ∙ sym h.count_is) lt ∙ ap (pad cap 0) (sym (map-append f es (l ∷ [])))

  -- another entry in place i
  pub holds_set : (i : ℕ) (l : Literals) → i < length es → Holds cap (set es i l) n (set ts i l.trues) (set fs i l.falses)
  holds_set i l lt = record {
    count_is = h.count_is ∙ sym (length-set es i l);
    room = h.room;
    trues_are = ap (λ (r : List ℕ). set r i l.trues) h.trues_are ∙ replaced (λ (e : Literals). e.trues);
    falses_are = ap (λ (r : List ℕ). set r i l.falses) h.falses_are ∙ replaced (λ (e : Literals). e.falses);
  }
    where
      replaced : (f : Literals → ℕ) → set (pad cap 0 (map f es)) i (f l) ≡ pad cap 0 (map f (set es i l))
      replaced f = set_pad cap (map f es) i (f l) (rw (length-map es f) lt) ∙ ap (pad cap 0) (sym (map-set f es i l))

  -- the entries read back
  pub holds_entries : entries_of n ts fs ≡ es
  holds_entries = rw (h.trues_are, h.falses_are, h.count_is) (entries_of_pad cap es (rw (← h.count_is) h.room))

  -- so what holds a list holds what is read back
  pub held : Held cap n ts fs
  held = subst (λ (x : List Literals). Holds cap x n ts fs) (sym holds_entries) h

-- ---- a table in lent arrays: the table of the list that they hold

module _ (es : List Literals) (n : ℕ) (ts fs : List ℕ) where
  pub holds_table : Holds 128 es n ts fs → lent n ts fs ≡ table_of es
  unfolding table_of
  holds_table h = λ j. lent (h.count_is j) (h.trues_are j) (h.falses_are j)

-- ---- fresh slots

pub entries_none : (ts fs : List ℕ) → entries_of 0 ts fs ≡ []
unfolding entries_of pairs pad
entries_none ts fs = refl

pub fresh : (cap : ℕ) → Held cap 0 (replicate cap 0) (replicate cap 0)
unfolding entries_of pairs pad
fresh cap = record { count_is = refl; room = omega arith; trues_are = sym (pad_nil cap 0); falses_are = sym (pad_nil cap 0) }
