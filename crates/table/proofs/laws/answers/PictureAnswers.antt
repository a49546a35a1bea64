-- TH4 for the call `picture`: each number exactly on its own condition, in document 01's order, and what the buffer then holds. No
-- hypothesis stands on the bytes, the table or the buffer. Assumes nothing.
use mathlib.Core.Path.{◌≡◌, refl, sym, ap, ◌∙◌}
use mathlib.Core.Bool.{Bool, true, false, true≢false}
use mathlib.Core.List.{List, ◌++◌}
use mathlib.Core.Logic.{◌↔◌}
use mathlib.Core.Option.{Option, none, some}
use Prim.Native.Nat.{ℕ, ◌+◌, ◌*◌, ◌≤◌, ◌<◌}
use native.Mathlib.Omega.{arith}
use lib.ListN.{length, drop}
use borrow.Author.Tests.{ltb-true, ltb-false, lt-ltb, le-ltb}
use Rattle.sheet.specs.declared.Literals.{Literals}
use Rattle.sheet.specs.Calls.{Accepted, Refused}
use Rattle.sheet.specs.Problem.{Statement}
use Rattle.sheet.specs.Format.{Judgement, accepted, refused, sheet_of}
use Rattle.table.specs.declared.Table.{Table}
use Rattle.table.specs.declared.PictureAnswer.{PictureAnswer}
use Rattle.table.specs.Minimal.{Described, described}
use Rattle.table.specs.Picture.{picture, picture_bytes}
use Rattle.table.specs.Entries.{entries}
use Rattle.table.specs.PictureCalls.{refusal, too_long, given, picture_of, written, buffer_of}
use Rattle.table.proofs.laws.answers.StartStepAnswers.{not_both, same_number}
use Rattle.table.proofs.laws.slots.DescribedTables.{described_iff}

-- a fault of the sheet comes first
pub picture_fault : (s : List ℕ) (t : Table) (buffer : List ℕ) (k p : ℕ) → sheet_of s ≡ refused k p
    → (picture_of (sheet_of s) t (length buffer) ≡ record { answer = Refused k p; clauses = 0 }) ×
    (buffer_of (sheet_of s) t buffer ≡ buffer)
unfolding picture_of buffer_of refusal
picture_fault s t buffer k p e = (rw e, rw e)

module _ (s : List ℕ) (x : Statement) (says : sheet_of s ≡ accepted x) (t : Table) (buffer : List ℕ) where
  -- the tests in their order
  data Case : Type 0 where
    other : described 128 x.problem.n (entries t) ≡ false → Case
    full : described 128 x.problem.n (entries t) ≡ true → picture (entries t) ≡ none → Case
    short : described 128 x.problem.n (entries t) ≡ true → (c : List Literals) → picture (entries t) ≡ some c
        → too_long c (length buffer) ≡ true → Case
    fine : described 128 x.problem.n (entries t) ≡ true → (c : List Literals) → picture (entries t) ≡ some c
        → too_long c (length buffer) ≡ false → Case

  which : Case
  which = go (described 128 x.problem.n (entries t)) refl (picture (entries t)) refl
    where
      fits : described 128 x.problem.n (entries t) ≡ true → (c : List Literals) → picture (entries t) ≡ some c → (b : Bool)
          → too_long c (length buffer) ≡ b → Case
      fits d c e true f = short d c e f
      fits d c e false f = fine d c e f

      go : (b : Bool) → described 128 x.problem.n (entries t) ≡ b → (o : Option (List Literals)) → picture (entries t) ≡ o → Case
      go false d o e = other d
      go true d none e = full d e
      go true d (some c) e = fits d c e (too_long c (length buffer)) refl

  by_other : described 128 x.problem.n (entries t) ≡ false → (picture_of (sheet_of s) t (length buffer) ≡ refusal 22 0)
      × (buffer_of (sheet_of s) t buffer ≡ buffer)
  unfolding picture_of buffer_of
  by_other d = (rw (says, d), rw (says, d))

  by_full : described 128 x.problem.n (entries t) ≡ true → picture (entries t) ≡ none
      → (picture_of (sheet_of s) t (length buffer) ≡ refusal 21 0) × (buffer_of (sheet_of s) t buffer ≡ buffer)
  unfolding picture_of buffer_of given written
  by_full d e = (rw (says, d, e), rw (says, d, e))

  by_short : described 128 x.problem.n (entries t) ≡ true → (c : List Literals) → picture (entries t) ≡ some c
      → too_long c (length buffer) ≡ true
      → (picture_of (sheet_of s) t (length buffer) ≡ refusal 23 0) × (buffer_of (sheet_of s) t buffer ≡ buffer)
  unfolding picture_of buffer_of given written
  by_short d c e f = (rw (says, d, e, f), rw (says, d, e, f))

  by_fine : described 128 x.problem.n (entries t) ≡ true → (c : List Literals) → picture (entries t) ≡ some c
      → too_long c (length buffer) ≡ false
      → (picture_of (sheet_of s) t (length buffer) ≡ record { answer = Accepted; clauses = length c })
      × (buffer_of (sheet_of s) t buffer ≡ picture_bytes c ++ drop (2 + 8 * length c) buffer)
  unfolding picture_of buffer_of given written
  by_fine d c e f = (rw (says, d, e, f), rw (says, d, e, f))

  is_described : described 128 x.problem.n (entries t) ≡ true → Described 128 x.problem.n (entries t)
  is_described = (described_iff 128 x.problem.n (entries t)).0

  not_described : described 128 x.problem.n (entries t) ≡ false → Described 128 x.problem.n (entries t) → ⊥
  not_described d h = true≢false (sym ((described_iff 128 x.problem.n (entries t)).1 h) ∙ d)

  lacks : (c : List Literals) → (too_long c (length buffer) ≡ true) ↔ (length buffer < 2 + 8 * length c)
  unfolding too_long
  lacks c = (ltb-true (length buffer) (2 + 8 * length c), lt-ltb (length buffer) (2 + 8 * length c))

  fits : (c : List Literals) → (too_long c (length buffer) ≡ false) ↔ (2 + 8 * length c ≤ length buffer)
  unfolding too_long
  fits c = (ltb-false (length buffer) (2 + 8 * length c), le-ltb (length buffer) (2 + 8 * length c))

  -- the answer's number, by the case
  number : Case → ℕ
  number (other d) = 22
  number (full d e) = 21
  number (short d c e f) = 23
  number (fine d c e f) = 0

  told : (w : Case) (k : ℕ) → (picture_of (sheet_of s) t (length buffer)).answer ≡ Refused k 0 → number w ≡ k
  unfolding number refusal
  told (other d) k e = same_number (ap (λ (r : PictureAnswer). r.answer) (sym (by_other d).0) ∙ e)
  told (full d o) k e = same_number (ap (λ (r : PictureAnswer). r.answer) (sym (by_full d o).0) ∙ e)
  told (short d c o f) k e = same_number (ap (λ (r : PictureAnswer). r.answer) (sym (by_short d c o f).0) ∙ e)
  told (fine d c o f) k e = absurd (not_both (ap (λ (r : PictureAnswer). r.answer) (sym (by_fine d c o f).0) ∙ e))

  -- 22: a table that is not as described
  pub picture_22 : ((picture_of (sheet_of s) t (length buffer)).answer ≡ Refused 22 0) ↔ (Described 128 x.problem.n (entries t) → ⊥)
  unfolding number refusal
  picture_22 = (λ e. go which (told which 22 e), λ h. back h which)
    where
      go : (w : Case) → number w ≡ 22 → Described 128 x.problem.n (entries t) → ⊥
      go (other d) n = not_described d
      go (full d o) n = absurd (omega arith)
      go (short d c o f) n = absurd (omega arith)
      go (fine d c o f) n = absurd (omega arith)

      back : (Described 128 x.problem.n (entries t) → ⊥) → Case → (picture_of (sheet_of s) t (length buffer)).answer ≡ Refused 22 0
      back h (other d) = ap (λ (r : PictureAnswer). r.answer) (by_other d).0
      back h (full d o) = absurd (h (is_described d))
      back h (short d c o f) = absurd (h (is_described d))
      back h (fine d c o f) = absurd (h (is_described d))

  -- 21: the clauses do not fit on the way
  pub picture_21 : ((picture_of (sheet_of s) t (length buffer)).answer ≡ Refused 21 0)
      ↔ (Described 128 x.problem.n (entries t) × (picture (entries t) ≡ none))
  unfolding number refusal
  picture_21 = (λ e. go which (told which 21 e), λ h. back h which)
    where
      go : (w : Case) → number w ≡ 21 → Described 128 x.problem.n (entries t) × (picture (entries t) ≡ none)
      go (other d) n = absurd (omega arith)
      go (full d o) n = (is_described d, o)
      go (short d c o f) n = absurd (omega arith)
      go (fine d c o f) n = absurd (omega arith)

      back : Described 128 x.problem.n (entries t) × (picture (entries t) ≡ none) → Case
          → (picture_of (sheet_of s) t (length buffer)).answer ≡ Refused 21 0
      back h (other d) = absurd (not_described d h.0)
      back h (full d o) = ap (λ (r : PictureAnswer). r.answer) (by_full d o).0
      back h (short d c o f) = absurd (let z : ◌≡◌ {A = ℕ} 0 1 = cc h.1 in omega arith)
      back h (fine d c o f) = absurd (let z : ◌≡◌ {A = ℕ} 0 1 = cc h.1 in omega arith)

  -- 23: the buffer is too short for the picture's bytes
  pub picture_23 : ((picture_of (sheet_of s) t (length buffer)).answer ≡ Refused 23 0)
      ↔ (Described 128 x.problem.n (entries t)
      × ((c : List Literals) × (picture (entries t) ≡ some c) × (length buffer < 2 + 8 * length c)))
  unfolding number refusal
  picture_23 = (λ e. go which (told which 23 e), λ h. back h which)
    where
      go : (w : Case) → number w ≡ 23 → Described 128 x.problem.n (entries t)
          × ((c : List Literals) × (picture (entries t) ≡ some c) × (length buffer < 2 + 8 * length c))
      go (other d) n = absurd (omega arith)
      go (full d o) n = absurd (omega arith)
      go (short d c o f) n = (is_described d, (c, o, (lacks c).0 f))
      go (fine d c o f) n = absurd (omega arith)

      back : Described 128 x.problem.n (entries t)
          × ((c : List Literals) × (picture (entries t) ≡ some c) × (length buffer < 2 + 8 * length c))
          → Case → (picture_of (sheet_of s) t (length buffer)).answer ≡ Refused 23 0
      back h (other d) = absurd (not_described d h.0)
      back h (full d o) = absurd (let z : ◌≡◌ {A = ℕ} 0 1 = cc h.1.1 in omega arith)
      back h (short d c o f) = ap (λ (r : PictureAnswer). r.answer) (by_short d c o f).0
      back h (fine d c o f) =
          let i : c ≡ h.1.0 = cc h.1.1 in
          absurd (omega (arith, (fits c).0 f, ap length i, h.1.2))

  -- accepted exactly if none of these holds: the clauses counted, their bytes written, later bytes kept
  pub picture_accepted : ((picture_of (sheet_of s) t (length buffer)).answer ≡ Accepted)
      ↔ (Described 128 x.problem.n (entries t)
      × ((c : List Literals) × (picture (entries t) ≡ some c) × (2 + 8 * length c ≤ length buffer)
      × ((picture_of (sheet_of s) t (length buffer)).clauses ≡ length c)
      × (buffer_of (sheet_of s) t buffer ≡ picture_bytes c ++ drop (2 + 8 * length c) buffer)))
  unfolding refusal
  picture_accepted = (λ e. go which e, λ h. back h which)
    where
      go : Case → (picture_of (sheet_of s) t (length buffer)).answer ≡ Accepted
          → Described 128 x.problem.n (entries t)
          × ((c : List Literals) × (picture (entries t) ≡ some c) × (2 + 8 * length c ≤ length buffer)
          × ((picture_of (sheet_of s) t (length buffer)).clauses ≡ length c)
          × (buffer_of (sheet_of s) t buffer ≡ picture_bytes c ++ drop (2 + 8 * length c) buffer))
      go (other d) e = absurd (not_both (sym (ap (λ (r : PictureAnswer). r.answer) (sym (by_other d).0) ∙ e)))
      go (full d o) e = absurd (not_both (sym (ap (λ (r : PictureAnswer). r.answer) (sym (by_full d o).0) ∙ e)))
      go (short d c o f) e = absurd (not_both (sym (ap (λ (r : PictureAnswer). r.answer) (sym (by_short d c o f).0) ∙ e)))
      go (fine d c o f) e =
          (is_described d, (c, o, (fits c).0 f, ap (λ (r : PictureAnswer). r.clauses) (by_fine d c o f).0, (by_fine d c o f).1))

      back : Described 128 x.problem.n (entries t)
          × ((c : List Literals) × (picture (entries t) ≡ some c) × (2 + 8 * length c ≤ length buffer)
          × ((picture_of (sheet_of s) t (length buffer)).clauses ≡ length c)
          × (buffer_of (sheet_of s) t buffer ≡ picture_bytes c ++ drop (2 + 8 * length c) buffer))
          → Case → (picture_of (sheet_of s) t (length buffer)).answer ≡ Accepted
      back h (other d) = absurd (not_described d h.0)
      back h (full d o) = absurd (let z : ◌≡◌ {A = ℕ} 0 1 = cc h.1.1 in omega arith)
      back h (short d c o f) =
          let i : c ≡ h.1.0 = cc h.1.1 in
          absurd (omega (arith, (lacks c).0 f, ap length i, h.1.2))
      back h (fine d c o f) = ap (λ (r : PictureAnswer). r.answer) (by_fine d c o f).0

-- refused: 0 clauses, and every byte of the buffer as it was
pub picture_back : (s : List ℕ) (t : Table) (buffer : List ℕ) (k q : ℕ) → (picture_of (sheet_of s) t (length buffer)).answer ≡ Refused k q
    → ((picture_of (sheet_of s) t (length buffer)).clauses ≡ 0) × (buffer_of (sheet_of s) t buffer ≡ buffer)
unfolding refusal
picture_back s t buffer k q e = go (sheet_of s) refl
  where
    by : (x : Statement) → sheet_of s ≡ accepted x → (says : sheet_of s ≡ accepted x) → Case s x says t buffer
        → ((picture_of (sheet_of s) t (length buffer)).clauses ≡ 0) × (buffer_of (sheet_of s) t buffer ≡ buffer)
    by x i says (other d) = let r = by_other s x says t buffer d in (ap (λ (y : PictureAnswer). y.clauses) r.0, r.1)
    by x i says (full d o) = let r = by_full s x says t buffer d o in (ap (λ (y : PictureAnswer). y.clauses) r.0, r.1)
    by x i says (short d c o f) = let r = by_short s x says t buffer d c o f in (ap (λ (y : PictureAnswer). y.clauses) r.0, r.1)
    by x i says (fine d c o f) = absurd (not_both (ap (λ (r : PictureAnswer). r.answer) (sym (by_fine s x says t buffer d c o f).0) ∙ e))

    go : (j : Judgement) → sheet_of s ≡ j → ((picture_of (sheet_of s) t (length buffer)).clauses ≡ 0) ×
        (buffer_of (sheet_of s) t buffer ≡ buffer)
    go (refused i p) f = let r = picture_fault s t buffer i p f in (ap (λ (y : PictureAnswer). y.clauses) r.0, r.1)
    go (accepted x) f = by x f f (which s x f t buffer)
