-- What a form asks for after some bytes: the part that is due, one form after the other, where the bytes stop, a run to the end.
-- For TH1 in proofs/Demands, by Judgements and Encodings. Assumes nothing.
use mathlib.Core.Path.{◌≡◌, refl, ap, ◌∙◌, sym}
use mathlib.Core.List.{List, [], ◌∷◌, ◌++◌, append-nil}
use mathlib.Core.Logic.{◌⊎◌, inl, inr, ◌↔◌}
use mathlib.Core.Option.{Option, some}
use Prim.Native.Nat.{ℕ, zero, suc}
use native.Mathlib.Omega.{arith}
use Rattle.sheet.specs.Form.{Form, done, byte, ◌>>=◌, judged, passed, due, fault_of}

-- ---- what is due after some bytes
-- one byte passed
pub passed_some : {B : Type 0} (k : ℕ) {x : Option B} {y : B} → passed k x ≡ some y → (k ≡ 0) × (x ≡ some y)
passed_some zero e = (refl, e)
passed_some (suc k) e = (cc, cc)

due_cons : {A : Type 0} (rule : ℕ → ℕ) (next : ℕ → Form A) (b : ℕ) (bs : List ℕ) {x : Option (Form A)} → rule b ≡ 0
    → due (next b) bs ≡ x
    → due (byte rule next) (b ∷ bs) ≡ x
unfolding due
due_cons rule next b bs z e = rw z e

-- after some bytes, the rest of the form is due
pub due_append : {A : Type 0} (f : Form A) (bs cs : List ℕ) {g : Form A} → due f bs ≡ some g → due f (bs ++ cs) ≡ due g cs
unfolding due
due_append f [] cs e = cc
due_append (done a) (b ∷ bs) cs e = cc
due_append (byte rule next) (b ∷ bs) cs e =
    let p = passed_some (rule b) e in due_cons rule next b (bs ++ cs) p.0 (due_append (next b) bs cs p.1)

-- ---- one form after the other

-- the bytes in two parts: the first form read whole, then the second
pub record Parts {A B : Type 0} (f : Form A) (g : A → Form B) (bs : List ℕ) (h : Form B) : Type 0 where
  pub first : List ℕ
  pub second : List ℕ
  pub value : A
  pub whole : bs ≡ first ++ second
  pub of_first : due f first ≡ some (done value)
  pub of_second : due (g value) second ≡ some h

-- a byte of the first form is due
pub record Inside {A B : Type 0} (f : Form A) (g : A → Form B) (bs : List ℕ) (h : Form B) : Type 0 where
  pub rule : ℕ → ℕ
  pub next : ℕ → Form A
  pub of_first : due f bs ≡ some (byte rule next)
  pub same : h ≡ (byte rule next >>= g)

module _ {A B : Type 0} where
  pub due_then : (f : Form A) (g : A → Form B) (bs cs : List ℕ) {a : A} → due f bs ≡ some (done a) → due (f >>= g) (bs ++ cs) ≡ due (g a) cs
  unfolding due ◌>>=◌
  due_then (done x) g [] cs {a} e = let q : x ≡ a = cc in rw q
  due_then (byte rule next) g [] cs e = cc
  due_then (done x) g (b ∷ bs) cs e = cc
  due_then (byte rule next) g (b ∷ bs) cs e = let p = passed_some (rule b) e in rw p.0 (due_then (next b) g bs cs p.1)

  pub due_split : (f : Form A) (g : A → Form B) (bs : List ℕ) {h : Form B} → due (f >>= g) bs ≡ some h → Parts f g bs h ⊎ Inside f g bs h
  unfolding due ◌>>=◌
  due_split (done a) g bs e = inl (record { first = []; second = bs; value = a; whole = refl; of_first = refl; of_second = e })
  due_split (byte rule next) g [] e = inr (record { rule = rule; next = next; of_first = refl; same = cc })
  due_split (byte rule next) g (b ∷ bs) {h} e =
      let p = passed_some (rule b) e in go p.0 (due_split (next b) g bs p.1)
    where
      go : rule b ≡ 0 → Parts (next b) g bs h ⊎ Inside (next b) g bs h
          → Parts (byte rule next) g (b ∷ bs) h ⊎ Inside (byte rule next) g (b ∷ bs) h
      go z (inl r) = inl (record {
        first = b ∷ r.first;
        second = r.second;
        value = r.value;
        whole = ap (λ (l : List ℕ). b ∷ l) r.whole;
        of_first = rw z r.of_first;
        of_second = r.of_second;
      })
      go z (inr r) = inr (record { rule = r.rule; next = r.next; of_first = rw z r.of_first; same = r.same })

  pub due_done_split : (f : Form A) (g : A → Form B) (bs : List ℕ) {c : B} → due (f >>= g) bs ≡ some (done c) → Parts f g bs (done c)
  unfolding ◌>>=◌
  due_done_split f g bs {c} e = go (due_split f g bs e)
    where
      go : Parts f g bs (done c) ⊎ Inside f g bs (done c) → Parts f g bs (done c)
      go (inl r) = r
      go (inr r) = let z : ◌≡◌ {A = ℕ} 0 1 = cc r.same in absurd (omega arith)

-- ---- where the bytes stop

-- before a byte that was passed, a byte is due
pub due_prefix : {A : Type 0} (f : Form A) (bs : List ℕ) (c : ℕ) (cs : List ℕ) {g : Form A} → due f (bs ++ (c ∷ cs)) ≡ some g
    → (rule : ℕ → ℕ) × (next : ℕ → Form A) × (due f bs ≡ some (byte rule next))
unfolding due
due_prefix (done a) [] c cs e = let z : ◌≡◌ {A = ℕ} 0 1 = cc in absurd (omega arith)
due_prefix (byte rule next) [] c cs e = (rule, next, refl)
due_prefix (done a) (b ∷ bs) c cs e = let z : ◌≡◌ {A = ℕ} 0 1 = cc in absurd (omega arith)
due_prefix (byte rule next) (b ∷ bs) c cs e =
    let p = passed_some (rule b) e in let r = due_prefix (next b) bs c cs p.1 in (r.0, r.1, due_cons rule next b bs p.0 r.2)

-- a byte that is passed has no fault
pub due_fine : {A : Type 0} (g : Form A) (c : ℕ) (cs ds : List ℕ) {h : Form A} → due g (c ∷ cs) ≡ some h → fault_of g (c ∷ ds) ≡ 0
unfolding due
due_fine (done a) c cs ds e = cc
due_fine (byte rule next) c cs ds e = (passed_some (rule c) e).0

-- one byte read
pub due_judged : (rule : ℕ → ℕ) (bs : List ℕ) {b : ℕ} → due (judged rule) bs ≡ some (done b) → (bs ≡ b ∷ []) × (rule b ≡ 0)
unfolding due judged
due_judged rule [] e = (cc, cc)
due_judged rule (c ∷ []) e = let p = passed_some (rule c) e in (cc p.1, cc (p.0, p.1))
due_judged rule (c ∷ (d ∷ ds)) e = let p = passed_some (rule c) e in (cc p.1, cc p.1)

-- where the bytes s stop under f: after the bytes `taken` f is at its end, or what is left begins with a fault
pub record Stop {A : Type 0} (f : Form A) (s : List ℕ) : Type 0 where
  pub taken : List ℕ
  pub left : List ℕ
  pub form : Form A
  pub whole : s ≡ taken ++ left
  pub before : due f taken ≡ some form
  pub why : ((a : A) × (form ≡ done a)) ⊎
      ((rule : ℕ → ℕ) × (next : ℕ → Form A) × (k : ℕ) × (form ≡ byte rule next) × (fault_of form left ≡ suc k))

pub stop : {A : Type 0} (f : Form A) (s : List ℕ) → Stop f s
unfolding due
stop (done a) s = record { taken = []; left = s; form = done a; whole = refl; before = refl; why = inl (a, refl) }
stop (byte rule next) [] =
    record { taken = []; left = []; form = byte rule next; whole = refl; before = refl; why = inr (rule, next, 0, refl, refl) }
stop (byte rule next) (b ∷ s) = go (rule b) refl (stop (next b) s)
  where
    go : (k : ℕ) → rule b ≡ k → Stop (next b) s → Stop (byte rule next) (b ∷ s)
    go zero z r = record {
      taken = b ∷ r.taken;
      left = r.left;
      form = r.form;
      whole = ap (λ (l : List ℕ). b ∷ l) r.whole;
      before = rw z r.before;
      why = r.why;
    }
    go (suc k) z r = record {
      taken = [];
      left = b ∷ s;
      form = byte rule next;
      whole = refl;
      before = refl;
      why = inr (rule, next, k, refl, z);
    }

-- ---- a run to the end of a form
-- a byte without fault, and the run after it
pub run_byte : {A : Type 0} (rule : ℕ → ℕ) (next : ℕ → Form A) (b : ℕ) (bs : List ℕ) (f : Form A)
    → (due (byte rule next) (b ∷ bs) ≡ some f) ↔ ((rule b ≡ 0) × (due (next b) bs ≡ some f))
unfolding due
run_byte rule next b bs f = (λ e. passed_some (rule b) e, λ h. due_cons rule next b bs h.0 h.1)

-- no byte where nothing more is to be read
pub run_done : {A : Type 0} (a c : A) (bs : List ℕ) → due (done a) bs ≡ some (done c) → (bs ≡ []) × (a ≡ c)
unfolding due
run_done a c [] e = (refl, cc)
run_done a c (b ∷ bs) e = let z : ◌≡◌ {A = ℕ} 0 1 = cc in absurd (omega arith)

-- a run through f, and its value in the shape that g gives it
pub run_map : {A C : Type 0} (f : Form A) (g : A → C) (bs : List ℕ) (c : C)
    → (due (f >>= (λ a. done (g a))) bs ≡ some (done c)) ↔ ((a : A) × (due f bs ≡ some (done a)) × (g a ≡ c))
unfolding due
run_map {A} {C} f g bs c = (to, from)
  where
    to : due (f >>= (λ a. done (g a))) bs ≡ some (done c) → (a : A) × (due f bs ≡ some (done a)) × (g a ≡ c)
    to e =
        let p = due_done_split f (λ a. done (g a)) bs e in
        let r : (p.second ≡ []) × (g p.value ≡ c) = run_done (g p.value) c p.second p.of_second in
        let q : bs ≡ p.first = p.whole ∙ ap (λ (l : List ℕ). p.first ++ l) r.0 ∙ append-nil p.first in
        (p.value, ap (due f) q ∙ p.of_first, r.1)

    from : (a : A) × (due f bs ≡ some (done a)) × (g a ≡ c) → due (f >>= (λ a. done (g a))) bs ≡ some (done c)
    from h =
        ap (due (f >>= (λ a. done (g a)))) (sym (append-nil bs)) ∙ due_then f (λ a. done (g a)) bs [] h.1
        ∙ ap (λ (x : C). some (done x)) h.2
