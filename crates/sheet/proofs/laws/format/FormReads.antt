-- Reading a form from a position: one byte, one form after the other, over the bytes passed to where it stops.
-- For what the functions of src/reader.rt give (laws/reader), and for TH1, by Judgements. Assumes nothing.
use mathlib.Core.Path.{◌≡◌, refl, sym, ap, ◌∙◌}
use mathlib.Core.Bool.{Bool, true, false}
use mathlib.Core.List.{List, [], ◌∷◌, ◌++◌, append-nil}
use mathlib.Core.Option.{some}
use Prim.Native.Nat.{ℕ, zero, suc, ◌+◌, ◌≤◌, ◌<◌}
use native.Mathlib.Nat.{add-zero}
use native.Mathlib.Numerals.{add-one}
use native.Mathlib.Omega.{arith}
use lib.Dec.{ltb}
use lib.ListN.{length, get_or, drop}
use lib.Seq.{drop-append_seam}
use borrow.Author.Tests.{lt-ltb, le-ltb}
use Rattle.sheet.specs.Form.{Form, done, byte, ◌>>=◌, judged, times, Read, item, fault, then_read, admit, byte_at, read, due, fault_of}
use Rattle.sheet.specs.Format.{count_fault, count, list_of}
use Rattle.sheet.proofs.laws.format.DueForms.{passed_some}
use Rattle.sheet.proofs.laws.format.ByteRules.{count_0}

pub read_then : {A B : Type 0} (s : List ℕ) (x : Form A) (f : A → Form B) (at : ℕ)
    → read s (x >>= f) at ≡ then_read (read s x at) (λ a next. read s (f a) next)
unfolding read ◌>>=◌
read_then s (done a) f at = refl
read_then s (byte rule next) f at = go (byte_at s rule at) (λ b rest. read_then s (next b) f rest)
  where
    go : (r : Read ℕ) → ((b rest : ℕ) → read s (next b >>= f) rest ≡ then_read (read s (next b) rest) (λ a n. read s (f a) n))
        → then_read r (λ b rest. read s (next b >>= f) rest) ≡ then_read (then_read r (λ b rest. read s (next b) rest))
        (λ a n. read s (f a) n)
    go (item b rest) ih = ih b rest
    go (fault k p) ih = refl

module _ {A B : Type 0} (s : List ℕ) (x : Form A) (f : A → Form B) (at : ℕ) where
  pub read_on : {a : A} {next : ℕ} → read s x at ≡ item a next → read s (x >>= f) at ≡ read s (f a) next
  read_on e = read_then s x f at ∙ ap (λ (r : Read A). then_read r (λ a next. read s (f a) next)) e

  pub read_fault : {k p : ℕ} → read s x at ≡ fault k p → read s (x >>= f) at ≡ fault k p
  read_fault e = read_then s x f at ∙ ap (λ (r : Read A). then_read r (λ a next. read s (f a) next)) e

pub read_judged : (s : List ℕ) (rule : ℕ → ℕ) (at : ℕ) → read s (judged rule) at ≡ byte_at s rule at
unfolding read judged
read_judged s rule at = go (byte_at s rule at)
  where
    go : (r : Read ℕ) → then_read r (λ b rest. read s (done b) rest) ≡ r
    go (item b rest) = refl
    go (fault k p) = refl

-- the byte at a position
drop_head : (s : List ℕ) (at : ℕ) {b : ℕ} {r : List ℕ} → drop at s ≡ b ∷ r → (at < length s) × (get_or s at 0 ≡ b) × (drop (suc at) s ≡ r)
drop_head [] zero e = let z : ◌≡◌ {A = ℕ} 0 1 = cc in absurd (omega arith)
drop_head [] (suc at) e = let z : ◌≡◌ {A = ℕ} 0 1 = cc in absurd (omega arith)
drop_head (x ∷ s) zero e = (omega arith, cc, cc)
drop_head (x ∷ s) (suc at) e = let h = drop_head s at e in (omega arith, h.1, h.2)

byte_here : (s : List ℕ) (rule : ℕ → ℕ) (at : ℕ) {b : ℕ} {r : List ℕ} → drop at s ≡ b ∷ r → byte_at s rule at ≡ admit (rule b) b at
unfolding byte_at
byte_here s rule at {b} {r} e = let h = drop_head s at e in rw (lt-ltb at (length s) h.0, h.1)

pub byte_out : (s : List ℕ) (rule : ℕ → ℕ) (at : ℕ) → length s ≤ at → byte_at s rule at ≡ fault 1 (length s)
unfolding byte_at
byte_out s rule at h = rw (le-ltb at (length s) h)

-- reading goes on where f is due, over the bytes passed
read_along : {A : Type 0} (s : List ℕ) (f : Form A) (bs rest : List ℕ) (at : ℕ) {g : Form A} → drop at s ≡ bs ++ rest → due f bs ≡ some g
    → read s f at ≡ read s g (at + length bs)
unfolding due read
read_along s f [] rest at d e = rw add-zero (cc)
read_along s (done a) (b ∷ bs) rest at d e = cc
read_along s (byte rule next) (b ∷ bs) rest at {g} d e =
    let p = passed_some (rule b) e in
    let here : byte_at s rule at ≡ item b (at + 1) = byte_here s rule at d ∙ ap (λ (k : ℕ). admit k b at) p.0 in
    let l : at + suc (length bs) ≡ at + 1 + length bs = omega arith in
    rw (here, l) (read_along s (next b) bs rest (at + 1) (rw add-one (drop_head s at d).2) p.1)

pub read_due : {A : Type 0} (pre : List ℕ) (f : Form A) (bs rest : List ℕ) {g : Form A} → due f bs ≡ some g
    → read (pre ++ (bs ++ rest)) f (length pre) ≡ read (pre ++ (bs ++ rest)) g (length pre + length bs)
read_due pre f bs rest e = read_along (pre ++ (bs ++ rest)) f bs rest (length pre) (drop-append_seam pre (bs ++ rest)) e

-- reading stops at a byte due that is at fault or missing
pub read_stop : {A : Type 0} (bs rest : List ℕ) (rule : ℕ → ℕ) (next : ℕ → Form A) (k : ℕ) → fault_of (byte rule next) rest ≡ suc k
    → read (bs ++ rest) (byte rule next) (length bs) ≡ fault (suc k) (length bs)
unfolding read
read_stop bs [] rule next k e =
    let l : length (bs ++ []) ≡ length bs = ap length (append-nil bs) in
    rw (byte_out (bs ++ []) rule (length bs) (omega arith), l) (cc)
read_stop bs (c ∷ cs) rule next k e = rw (byte_here (bs ++ (c ∷ cs)) rule (length bs) (drop-append_seam bs (c ∷ cs)), e)

-- ---- what was read
-- no item is a fault
clash : {A : Type 0} {a : A} {next k p : ℕ} → ◌≡◌ {A = Read A} (item a next) (fault k p) → ⊥
clash e = let z : ◌≡◌ {A = ℕ} 0 1 = cc in omega arith

admitted : (f b at : ℕ) {a e : ℕ} → admit f b at ≡ item a e → (f ≡ 0) × (b ≡ a)
admitted zero b at q = (refl, cc)
admitted (suc f) b at q = absurd (clash (sym q))

-- a byte that was read had no fault
pub judged_passed : (s : List ℕ) (rule : ℕ → ℕ) (at : ℕ) {b next : ℕ} → read s (judged rule) at ≡ item b next → rule b ≡ 0
unfolding byte_at
judged_passed s rule at {b} {next} q = go (ltb at (length s)) refl
  where
    r : byte_at s rule at ≡ item b next
    r = sym (read_judged s rule at) ∙ q

    go : (t : Bool) → ltb at (length s) ≡ t → rule b ≡ 0
    go true e =
        let h : admit (rule (get_or s at 0)) (get_or s at 0) at ≡ item b next = rw e at r in
        let j = admitted (rule (get_or s at 0)) (get_or s at 0) at h in
        ap rule (sym j.1) ∙ j.0
    go false e = let h : fault 1 (length s) ≡ item b next = rw e at r in absurd (clash (sym h))

-- a list has as many items as its count says, so at most the highest count
times_length : {A : Type 0} (s : List ℕ) (one : Form A) (k at : ℕ) {xs : List A} {next : ℕ} → read s (times k one) at ≡ item xs next
    → length xs ≡ k
unfolding read times
times_length s one zero at {xs} q = let h : xs ≡ [] = cc in rw h
times_length {A} s one (suc k) at {xs} {next} q = go (read s one at)
    (sym (read_then s one (λ x. times k one >>= (λ ys. done (x ∷ ys))) at) ∙ q) (λ e ys f p. times_length s one k e p)
  where
    last : (x : A) (e : ℕ) (r : Read (List A)) → then_read r (λ ys f. item (x ∷ ys) f) ≡ item xs next
        → ((ys : List A) (f : ℕ) → r ≡ item ys f → length ys ≡ k) → length xs ≡ suc k
    last x e (item ys f) g ih = let h : xs ≡ x ∷ ys = cc in rw h (ap suc (ih ys f refl))
    last x e (fault f p) h ih = absurd (clash (sym h))

    go : (r : Read A) → then_read r (λ x e. read s (times k one >>= (λ ys. done (x ∷ ys))) e) ≡ item xs next
        → ((e : ℕ) (ys : List A) (f : ℕ) → read s (times k one) e ≡ item ys f → length ys ≡ k) → length xs ≡ suc k
    go (item x e) p ih =
        last x e (read s (times k one) e) (sym (read_then s (times k one) (λ ys. done (x ∷ ys)) e) ∙ p) (ih e)
    go (fault f p) e ih = absurd (clash (sym e))

pub list_most : {A : Type 0} (s : List ℕ) (low high : ℕ) (one : Form A) (at : ℕ) {xs : List A} {next : ℕ}
    → read s (list_of low high one) at ≡ item xs next → length xs ≤ high
unfolding list_of
list_most {A} s low high one at {xs} {next} q = go (read s (count low high) at) refl
    (sym (read_then s (count low high) (λ k. times k one) at) ∙ q)
  where
    go : (r : Read ℕ) → read s (count low high) at ≡ r → then_read r (λ k e. read s (times k one) e) ≡ item xs next → length xs ≤ high
    go (item k e) p h =
        let b : k ≤ high = ((count_0 low high k).0 (judged_passed s (count_fault low high) at p)).1 in
        let l : length xs ≡ k = times_length s one k e h in
        omega arith
    go (fault f p) e h = absurd (clash (sym h))
