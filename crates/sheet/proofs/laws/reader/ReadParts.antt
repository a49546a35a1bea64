-- A form that is read part by part: what is left of it, after a part, at its end, at a fault; and one byte.
-- For the methods of src/reader.rt. Assumes nothing.
use mathlib.Core.Path.{◌≡◌, refl, sym, ap, ◌∙◌, subst}
use mathlib.Core.List.{List}
use Prim.Native.Nat.{ℕ, zero, suc, ◌≤◌, ◌<◌}
use lib.ListN.{length, get_or}
use borrow.Author.Tests.{lt-ltb}
use Rattle.std.specs.Prelude.{Result, Ok, Err}
use Rattle.std.specs.Prelude as std
use Rattle.std.specs.Result.{IfOk, IsErrAnd}
use Rattle.sheet.specs.declared.Fault.{Fault}
use Rattle.sheet.specs.declared.reader.Reader.{Reader}
use Rattle.sheet.specs.Form.{Form, done, ◌>>=◌, judged, Read, item, fault, admit, byte_at, read}
use Rattle.sheet.specs.inner.Reads.{Gives, ReadsAs, Reads, same, fault_in}
use Rattle.sheet.proofs.laws.reader.ReadSheets.{exit}
use Rattle.sheet.proofs.laws.format.FormReads.{read_on, read_fault, read_judged, byte_out}

-- ---- a result
module _ {A B : Type 0} (says : B → A) (x : Read A) {r : Result B Fault} (at : ℕ) where
  pub got_item : {v : B} → Gives says x r at → r ≡ Ok v → x ≡ item (says v) at
  got_item g e = subst (λ (q : Result B Fault). Gives says x q at) e g

  pub got_fault : {f : Fault} → Gives says x r at → r ≡ Err f → x ≡ fault f.number f.position
  got_fault g e = subst (λ (q : Result B Fault). Gives says x q at) e g

  pub gave_fault : {f : Fault} → r ≡ Err f → x ≡ fault f.number f.position → Gives says x r at
  gave_fault e g = subst (λ (q : Result B Fault). Gives says x q at) (sym e) g

-- ---- a form in parts
-- of the form `whole`, to be read from where reading stood before, `rest` is left here
pub record Left {A : Type 0} (whole : Form A) (before : Reader) (rest : Form A) (here : Reader) : Type 0 where
  pub bytes : here.bytes.now ≡ before.bytes.now
  pub so : read before.bytes.now whole before.at ≡ read before.bytes.now rest here.at

pub left_all : {A : Type 0} (whole : Form A) (before : Reader) → Left whole before whole before
left_all whole before = record { bytes = refl; so = refl }

module _ {A : Type 0} {whole rest : Form A} {before here : Reader} (t : Left whole before rest here) where
  pub left_as : {other : Form A} → rest ≡ other → Left whole before other here
  left_as e = subst (λ (f : Form A). Left whole before f here) e t

  read_here : {B : Type 0} (x : Form B) → read before.bytes.now x here.at ≡ read here.bytes.now x here.at
  read_here x = ap (λ (s : List ℕ). read s x here.at) (sym t.bytes)

-- the next part, by another of the same reading
pub left_next : {A B : Type 0} {whole : Form A} {x y : Form B} (f : B → Form A) {before here : Reader} → x ≡ y
    → Left whole before (x >>= f) here → Left whole before (y >>= f) here
left_next f e t = left_as t (ap (λ (z : Form _). z >>= f) e)

module _ {A B C : Type 0} {whole : Form A} {x : Form B} (f : B → Form A) {before here after : Reader} {says : C → B} {r : Result C Fault}
    (t : Left whole before (x >>= f) here) (g : ReadsAs says x here r after) where
  -- after a part
  pub left_after : {v : C} → r ≡ Ok v → Left whole before (f (says v)) after
  left_after e = record {
    bytes = g.bytes ∙ t.bytes;
    so = t.so ∙ read_on before.bytes.now x f here.at (read_here t x ∙ got_item _ _ _ g.gives e);
  }

  -- a part at fault
  pub left_stop : {D : Type 0} {all : D → A} {out : Result D Fault} {e : Fault} → r ≡ Err e → IsErrAnd out (λ y. y ≡ e)
      → ReadsAs all whole before out after
  left_stop {out} e h = record {
    bytes = g.bytes ∙ t.bytes;
    gives = gave_fault _ _ _ (exit out h) (t.so ∙ read_fault before.bytes.now x f here.at (read_here t x ∙ got_fault _ _ _ g.gives e));
  }

-- a part, and a value made of it at the end
pub left_made : {A B C : Type 0} {whole : Form A} {x : Form B} (make : B → A) {before here after : Reader} {says : C → B}
    {all : C → A} {r : Result C Fault}
    → Left whole before (x >>= (λ b. done (make b))) here → ReadsAs says x here r after → ((v : C) → make (says v) ≡ all v)
    → ReadsAs all whole before r after
unfolding read
left_made {A} {B} {C} {whole} {x} make {before} {here} {after} {says} {all} {r} t g e =
    record { bytes = g.bytes ∙ t.bytes; gives = go r g.gives }
  where
    s : List ℕ
    s = before.bytes.now

    go : (q : Result C Fault) → Gives says (read here.bytes.now x here.at) q after.at → Gives all (read s whole before.at) q after.at
    go (Ok v) k =
        t.so ∙ read_on s x (λ b. done (make b)) here.at (read_here t x ∙ k) ∙ ap (λ (a : A). item a after.at) (e v)
    go (Err f) k = t.so ∙ read_fault s x (λ b. done (make b)) here.at (read_here t x ∙ k)

-- at the end
pub left_end : {A B : Type 0} {whole : Form A} {a : A} {before here : Reader} {says : B → A} {v : B} → Left whole before (done a) here
    → a ≡ says v → ReadsAs says whole before (Ok v) here
unfolding read
left_end {here} t e = record { bytes = t.bytes; gives = t.so ∙ ap (λ (z : _). item z here.at) e }

-- ---- one byte
module _ (rule : ℕ → ℕ) (before : Reader) where
  -- the bytes have ended
  pub byte_early : {e : Fault} {out : Result ℕ Fault} → (length before.bytes.now ≤ before.at)
      × (e ≡ record { number = 1; position = length before.bytes.now }) → IsErrAnd out (λ y. y ≡ e) → Reads (judged rule) before out before
  byte_early {out} h k = record {
    bytes = refl;
    gives = gave_fault _ _ _ (exit out k ∙ ap Err h.1)
        (read_judged before.bytes.now rule before.at ∙ byte_out before.bytes.now rule before.at h.0);
  }

  -- the byte that is next is read, or its fault
  pub byte_judged : {b : ℕ} {f : std.Option ℕ} {out : Result ℕ Fault} {after : Reader}
      → (before.at < length before.bytes.now) × (b ≡ get_or before.bytes.now before.at 0)
      → f ≡ fault_in (rule b)
      → after.bytes.now ≡ before.bytes.now
      → ((k : ℕ) → f ≡ fault_in k → Gives same (admit k b before.at) out after.at)
      → Reads (judged rule) before out after
  unfolding byte_at
  byte_judged {b} {out} {after} h e kept g = record {
    bytes = kept;
    gives = subst (λ (x : Read ℕ). Gives same x out after.at)
        (sym (read_judged before.bytes.now rule before.at ∙ rw (lt-ltb before.at (length before.bytes.now) h.0, ← h.1)))
        (g (rule b) e);
  }

-- a byte that was read had no fault by its rule
pub byte_passed : {b k : ℕ} {f : std.Option ℕ} (P : ℕ → Type 0) (r : Result ℕ Fault) → IfOk r (λ v. (v ≡ b) × (f ≡ std.None))
    → f ≡ fault_in k → (k ≡ 0 → P b) → IfOk r P
byte_passed {b} {k} {f} P (Ok v) h e p = subst P (sym h.0) (p (none k (sym e ∙ h.1)))
  where
    none : (j : ℕ) → fault_in j ≡ std.None → j ≡ 0
    none zero q = refl
    none (suc j) q = cc
byte_passed P (Err e) h q p = tt
