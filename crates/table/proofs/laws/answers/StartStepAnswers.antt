-- TH4 for the calls `start` and `step`: each number exactly on its own condition, in document 01's order, and what comes back beside it.
-- No hypothesis stands on the bytes, the table or the number. Assumes nothing.
use mathlib.Core.Path.{◌≡◌, refl, sym, ap, ◌∙◌}
use mathlib.Core.Bool.{Bool, true, false, true≢false}
use mathlib.Core.List.{List, []}
use mathlib.Core.Logic.{◌↔◌, ◌⊎◌, inl, inr}
use Prim.Native.Nat.{ℕ, ◌≤◌, ◌<◌}
use native.Mathlib.Omega.{arith}
use lib.Dec.{ltb}
use lib.ListN.{length}
use borrow.Author.Tests.{ltb-true, ltb-false, lt-ltb, le-ltb}
use Rattle.sheet.specs.declared.Literals.{Literals}
use Rattle.sheet.specs.Calls.{Answer, Accepted, Refused}
use Rattle.sheet.specs.Problem.{Action, Statement}
use Rattle.sheet.specs.Encoding.{ProperProblem}
use Rattle.sheet.specs.Format.{Judgement, accepted, refused, sheet_of}
use Rattle.sheet.proofs.Demands.{statement_proper}
use Rattle.table.specs.declared.Table.{Table}
use Rattle.table.specs.declared.TableAnswer.{TableAnswer}
use Rattle.table.specs.Minimal.{Described, described, Outcome}
use Rattle.table.specs.Start.{start_table}
use Rattle.table.specs.Step.{step_table}
use Rattle.table.specs.Entries.{entries, table_of}
use Rattle.sheet.proofs.laws.reader.ReadSheets.{same_fault}
use Rattle.table.specs.Calls.{or_given, start_of, action_at, step_known, step_move, step_of}
use Rattle.table.proofs.laws.steps.StepWorlds.{at_proper}
use Rattle.table.proofs.laws.steps.StepWorlds as stepping
use Rattle.table.proofs.laws.slots.DescribedTables.{described_iff}

-- ---- answers told apart
pub not_both : {k p : ℕ} → Accepted ≡ Refused k p → ⊥
not_both e = let z : ◌≡◌ {A = ℕ} 0 1 = cc in omega arith

pub same_number : {k p j q : ℕ} → Refused k p ≡ Refused j q → k ≡ j
same_number e = (same_fault e).0

-- an outcome, with the table that a refusal hands back
module _ (t : Table) where
  given_refused : (o : Outcome) (k q : ℕ) → ((or_given t o).answer ≡ Refused k q) ↔ ((q ≡ 0) × (o ≡ Outcome.refused k))
  unfolding or_given
  given_refused (Outcome.refused j) k
      q = (
        λ e. let f = same_fault e in (sym f.1, ap Outcome.refused f.0),
        λ h. let i : j ≡ k = cc h.1 in let z : q ≡ 0 = h.0 in cc,
      )
  given_refused (Outcome.table u) k q = (λ e. absurd (not_both e), λ h. let i : ◌≡◌ {A = Answer} Accepted (Refused k q) = cc h.1 in i)

  given_accepted : (o : Outcome) → ((or_given t o).answer ≡ Accepted) ↔ ((u : List Literals) × (o ≡ Outcome.table u))
  unfolding or_given
  given_accepted (Outcome.refused j) = (
    λ e. absurd (not_both (sym e)),
    λ h. let i : ◌≡◌ {A = Answer} (Refused j 0) Accepted = cc h.1 in i,
  )
  given_accepted (Outcome.table u) = (λ e. (u, refl), λ h. refl)

  given_back : (o : Outcome) {k q : ℕ} → (or_given t o).answer ≡ Refused k q → (or_given t o).table ≡ t
  unfolding or_given
  given_back (Outcome.refused j) e = refl
  given_back (Outcome.table u) e = absurd (not_both e)

-- ---- start
-- a fault of the sheet comes first
pub start_fault : (s : List ℕ) (k p : ℕ) → sheet_of s ≡ refused k p
    → start_of (sheet_of s) ≡ record { answer = Refused k p; table = table_of [] }
unfolding start_of
start_fault s k p e = rw e

module _ (s : List ℕ) (x : Statement) (says : sheet_of s ≡ accepted x) where
  started : start_of (sheet_of s) ≡ or_given (table_of []) (start_table 128 x.problem)
  unfolding start_of
  started = rw says

  -- then 20 or 21, by the working order of the start (TH2)
  pub start_number : (k q : ℕ) → ((start_of (sheet_of s)).answer ≡ Refused k q) ↔
      ((q ≡ 0) × (start_table 128 x.problem ≡ Outcome.refused k))
  start_number k q = rw started (given_refused (table_of []) (start_table 128 x.problem) k q)

  pub start_accepted : ((start_of (sheet_of s)).answer ≡ Accepted) ↔ ((t : List Literals) × (start_table 128 x.problem ≡ Outcome.table t))
  start_accepted = rw started (given_accepted (table_of []) (start_table 128 x.problem))

-- a refused start gives a table with count 0 and all slots zero
pub start_back : (s : List ℕ) (k q : ℕ) → (start_of (sheet_of s)).answer ≡ Refused k q → (start_of (sheet_of s)).table ≡ table_of []
unfolding start_of
start_back s k q = go (sheet_of s)
  where
    go : (j : Judgement) → (start_of j).answer ≡ Refused k q → (start_of j).table ≡ table_of []
    go (refused i p) e = refl
    go (accepted x) e = given_back (table_of []) (start_table 128 x.problem) e

-- ---- step
pub step_fault : (s : List ℕ) (t : Table) (m k p : ℕ) → sheet_of s ≡ refused k p
    → step_of (sheet_of s) t m ≡ record { answer = Refused k p; table = t }
unfolding step_of
step_fault s t m k p e = rw e

module _ (s : List ℕ) (x : Statement) (says : sheet_of s ≡ accepted x) (t : Table) (m : ℕ) where
  hp : ProperProblem x.problem
  hp = (statement_proper s x says).problem

  -- the tests in their order
  data Case : Type 0 where
    off : length x.problem.actions ≤ m → Case
    other : m < length x.problem.actions → described 128 x.problem.n (entries t) ≡ false → Case
    known : m < length x.problem.actions → described 128 x.problem.n (entries t) ≡ true → Case

  which : Case
  which = go (ltb m (length x.problem.actions)) refl (described 128 x.problem.n (entries t)) refl
    where
      go : (a : Bool) → ltb m (length x.problem.actions) ≡ a → (b : Bool) → described 128 x.problem.n (entries t) ≡ b → Case
      go false e b f = off (ltb-false m (length x.problem.actions) e)
      go true e false f = other (ltb-true m (length x.problem.actions) e) f
      go true e true f = known (ltb-true m (length x.problem.actions) e) f

  by_off : length x.problem.actions ≤ m → step_of (sheet_of s) t m ≡ record { answer = Refused 7 0; table = t }
  unfolding step_of
  by_off h = rw (says, le-ltb m (length x.problem.actions) h)

  by_other : m < length x.problem.actions → described 128 x.problem.n (entries t) ≡ false
      → step_of (sheet_of s) t m ≡ record { answer = Refused 22 0; table = t }
  unfolding step_of
  by_other h d = rw (says, lt-ltb m (length x.problem.actions) h, d)

  by_known : m < length x.problem.actions → described 128 x.problem.n (entries t) ≡ true
      → step_of (sheet_of s) t m ≡ or_given t (step_table 128 (action_at x.problem m) (entries t))
  unfolding step_of
  by_known h d = rw (says, lt-ltb m (length x.problem.actions) h, d)

  is_described : described 128 x.problem.n (entries t) ≡ true → Described 128 x.problem.n (entries t)
  is_described = (described_iff 128 x.problem.n (entries t)).0

  -- a step is refused by 24, 25 or 21 alone
  among : {k : ℕ} → m < length x.problem.actions → described 128 x.problem.n (entries t) ≡ true
      → step_table 128 (action_at x.problem m) (entries t) ≡ Outcome.refused k → (k ≡ 24) ⊎ ((k ≡ 25) ⊎ (k ≡ 21))
  among {k} h d e =
      pick (stepping.step_kind x.problem.n hp.n_most (action_at x.problem m) (at_proper x.problem hp m h) (entries t)
      (is_described d).proper 128)
    where
      pick : (step_table 128 (action_at x.problem m) (entries t) ≡ Outcome.refused 24)
          ⊎ ((step_table 128 (action_at x.problem m) (entries t) ≡ Outcome.refused 25)
          ⊎ ((step_table 128 (action_at x.problem m) (entries t) ≡ Outcome.refused 21)
          ⊎ ((u : List Literals) × (step_table 128 (action_at x.problem m) (entries t) ≡ Outcome.table u)))) → (k ≡ 24)
          ⊎ ((k ≡ 25) ⊎ (k ≡ 21))
      pick (inl f) = inl (let i : k ≡ 24 = cc in i)
      pick (inr (inl f)) = inr (inl (let i : k ≡ 25 = cc in i))
      pick (inr (inr (inl f))) = inr (inr (let i : k ≡ 21 = cc in i))
      pick (inr (inr (inr f))) = absurd (let z : ◌≡◌ {A = ℕ} 0 1 = cc f.1 in omega arith)

  not_7 : {k : ℕ} → (k ≡ 24) ⊎ ((k ≡ 25) ⊎ (k ≡ 21)) → (k ≡ 7 → ⊥) × (k ≡ 22 → ⊥)
  not_7 (inl e) = (λ f. omega arith, λ f. omega arith)
  not_7 (inr (inl e)) = (λ f. omega arith, λ f. omega arith)
  not_7 (inr (inr e)) = (λ f. omega arith, λ f. omega arith)

  told_off : {a : Answer} → (step_of (sheet_of s) t m).answer ≡ a → length x.problem.actions ≤ m → Refused 7 0 ≡ a
  told_off e h = ap (λ (r : TableAnswer). r.answer) (sym (by_off h)) ∙ e

  told_other : {a : Answer} → (step_of (sheet_of s) t m).answer ≡ a → m < length x.problem.actions
      → described 128 x.problem.n (entries t) ≡ false → Refused 22 0 ≡ a
  told_other e h d = ap (λ (r : TableAnswer). r.answer) (sym (by_other h d)) ∙ e

  told_known : {a : Answer} → (step_of (sheet_of s) t m).answer ≡ a → m < length x.problem.actions
      → described 128 x.problem.n (entries t) ≡ true
      → (or_given t (step_table 128 (action_at x.problem m) (entries t))).answer ≡ a
  told_known e h d = ap (λ (r : TableAnswer). r.answer) (sym (by_known h d)) ∙ e

  -- 7: a move number that is not on the sheet
  pub step_7 : ((step_of (sheet_of s) t m).answer ≡ Refused 7 0) ↔ (length x.problem.actions ≤ m)
  step_7 = (λ e. go e which, λ h. ap (λ (r : TableAnswer). r.answer) (by_off h))
    where
      go : (step_of (sheet_of s) t m).answer ≡ Refused 7 0 → Case → length x.problem.actions ≤ m
      go e (off h) = h
      go e (other h d) = absurd (omega (arith, same_number (told_other e h d)))
      go e (known h d) = absurd ((not_7 (among h d ((given_refused t _ 7 0).0 (told_known e h d)).1)).0 refl)

  -- 22: a table that is not as described
  pub step_22 : ((step_of (sheet_of s) t m).answer ≡ Refused 22 0)
      ↔ ((m < length x.problem.actions) × (Described 128 x.problem.n (entries t) → ⊥))
  step_22 = (λ e. go e which, λ h. back h which)
    where
      go : (step_of (sheet_of s) t m).answer ≡ Refused 22 0 → Case → (m < length x.problem.actions)
          × (Described 128 x.problem.n (entries t) → ⊥)
      go e (off h) = absurd (omega (arith, same_number (told_off e h)))
      go e (other h d) = (h, λ y. true≢false (sym ((described_iff 128 x.problem.n (entries t)).1 y) ∙ d))
      go e (known h d) = absurd ((not_7 (among h d ((given_refused t _ 22 0).0 (told_known e h d)).1)).1 refl)

      back : (m < length x.problem.actions) × (Described 128 x.problem.n (entries t) → ⊥) → Case
          → (step_of (sheet_of s) t m).answer ≡ Refused 22 0
      back h (off y) = absurd (omega (arith, h.0))
      back h (other y d) = ap (λ (r : TableAnswer). r.answer) (by_other y d)
      back h (known y d) = absurd (h.1 (is_described d))

  -- 24, 25 and 21: by the step itself (TH3)
  pub step_number : (k : ℕ) → (k ≡ 24) ⊎ ((k ≡ 25) ⊎ (k ≡ 21))
      → ((step_of (sheet_of s) t m).answer ≡ Refused k 0)
      ↔ ((m < length x.problem.actions) × Described 128 x.problem.n (entries t)
      × (step_table 128 (action_at x.problem m) (entries t) ≡ Outcome.refused k))
  step_number k n = (λ e. go e which, λ h. back h which)
    where
      go : (step_of (sheet_of s) t m).answer ≡ Refused k 0 → Case
          → (m < length x.problem.actions) × Described 128 x.problem.n (entries t)
          × (step_table 128 (action_at x.problem m) (entries t) ≡ Outcome.refused k)
      go e (off h) = absurd ((not_7 n).0 (sym (same_number (told_off e h))))
      go e (other h d) = absurd ((not_7 n).1 (sym (same_number (told_other e h d))))
      go e (known h d) = (h, is_described d, ((given_refused t _ k 0).0 (told_known e h d)).1)

      back : (m < length x.problem.actions) × Described 128 x.problem.n (entries t)
          × (step_table 128 (action_at x.problem m) (entries t) ≡ Outcome.refused k)
          → Case → (step_of (sheet_of s) t m).answer ≡ Refused k 0
      back h (off y) = absurd (omega (arith, h.0))
      back h (other y d) = absurd (true≢false (sym ((described_iff 128 x.problem.n (entries t)).1 h.1) ∙ d))
      back h (known y d) = ap (λ (r : TableAnswer). r.answer) (by_known y d) ∙ (given_refused t _ k 0).1 (refl, h.2)

  -- accepted exactly if none of these holds
  pub step_accepted : ((step_of (sheet_of s) t m).answer ≡ Accepted)
      ↔ ((m < length x.problem.actions) × Described 128 x.problem.n (entries t)
      × ((u : List Literals) × (step_table 128 (action_at x.problem m) (entries t) ≡ Outcome.table u)))
  step_accepted = (λ e. go e which, λ h. back h which)
    where
      go : (step_of (sheet_of s) t m).answer ≡ Accepted → Case
          → (m < length x.problem.actions) × Described 128 x.problem.n (entries t)
          × ((u : List Literals) × (step_table 128 (action_at x.problem m) (entries t) ≡ Outcome.table u))
      go e (off h) = absurd (not_both (sym (told_off e h)))
      go e (other h d) = absurd (not_both (sym (told_other e h d)))
      go e (known h d) = (h, is_described d, (given_accepted t _).0 (told_known e h d))

      back : (m < length x.problem.actions) × Described 128 x.problem.n (entries t)
          × ((u : List Literals) × (step_table 128 (action_at x.problem m) (entries t) ≡ Outcome.table u)) → Case
          → (step_of (sheet_of s) t m).answer ≡ Accepted
      back h (off y) = absurd (omega (arith, h.0))
      back h (other y d) = absurd (true≢false (sym ((described_iff 128 x.problem.n (entries t)).1 h.1) ∙ d))
      back h (known y d) = ap (λ (r : TableAnswer). r.answer) (by_known y d) ∙ (given_accepted t _).1 h.2

-- a refused step gives back the given table in every slot
pub step_back : (s : List ℕ) (t : Table) (m k q : ℕ) → (step_of (sheet_of s) t m).answer ≡ Refused k q → (step_of (sheet_of s) t m).table
    ≡ t
unfolding step_of
step_back s t m k q = go (sheet_of s)
  where
    known : (b : Bool) (a : Action) → (step_known b a t).answer ≡ Refused k q → (step_known b a t).table ≡ t
    known false a e = refl
    known true a e = given_back t (step_table 128 a (entries t)) e

    moved : (b : Bool) (n : ℕ) (a : Action) → (step_move b n a t).answer ≡ Refused k q → (step_move b n a t).table ≡ t
    moved false n a e = refl
    moved true n a e = known (described 128 n (entries t)) a e

    go : (j : Judgement) → (step_of j t m).answer ≡ Refused k q → (step_of j t m).table ≡ t
    go (refused i p) e = refl
    go (accepted x) e = moved (ltb m (length x.problem.actions)) x.problem.n (action_at x.problem m) e
