-- The outcome of a start: a table, or the number 20 or 21; and an answer that is refused exactly where the start is. For RunRefusals,
-- SearchRefusals (TH4), RunPlaces, RunDemands, SearchDemands and ExactCalls. Assumes nothing.
use mathlib.Core.Path.{◌≡◌, sym, ap, ◌∙◌}
use mathlib.Core.List.{List}
use mathlib.Core.Logic.{◌↔◌, ◌⊎◌, inl, inr}
use Prim.Native.Nat.{ℕ, ◌≤◌}
use native.Mathlib.Omega.{arith}
use Rattle.sheet.specs.declared.Literals.{Literals}
use Rattle.sheet.specs.Problem.{Problem}
use Rattle.table.specs.Minimal.{Outcome}
use Rattle.table.specs.Start.{start_table}
use Rattle.table.proofs.Demands.{start_kind}

-- ---- 20, 21, or a table (`start_kind`)
abbrev pub Kinds : Problem → Type 0
Kinds p = (start_table 128 p ≡ Outcome.refused 20) ⊎
    ((start_table 128 p ≡ Outcome.refused 21) ⊎ ((t : List Literals) × (start_table 128 p ≡ Outcome.table t)))

-- a table, or a number
abbrev pub Outcomes : Problem → Type 0
Outcomes p = ((N : ℕ) × (start_table 128 p ≡ Outcome.refused N)) ⊎ ((t : List Literals) × (start_table 128 p ≡ Outcome.table t))

pub outcomes : (p : Problem) → Outcomes p
outcomes p = go (start_kind 128 p)
  where
    go : Kinds p → Outcomes p
    go (inl e) = inl (20, e)
    go (inr (inl e)) = inl (21, e)
    go (inr (inr e)) = inr e

-- so two things are one where neither is without a table, and they are one from any
pub by_outcome : (p : Problem) {A B : Type 0} → ((N : ℕ) → start_table 128 p ≡ Outcome.refused N → A → ⊥)
    → ((N : ℕ) → start_table 128 p ≡ Outcome.refused N → B → ⊥)
    → ((t : List Literals) → start_table 128 p ≡ Outcome.table t → A ↔ B)
    → A ↔ B
by_outcome p {A} {B} no-a no-b one = go (outcomes p)
  where
    go : Outcomes p → A ↔ B
    go (inl r) = (λ a. absurd (no-a r.0 r.1 a), λ b. absurd (no-b r.0 r.1 b))
    go (inr r) = one r.0 r.1

-- ---- told apart
pub apart : {k : ℕ} {t : List Literals} → Outcome.refused k ≡ Outcome.table t → ⊥
apart e = let z : ◌≡◌ {A = ℕ} 0 1 = cc in omega arith

-- a start is refused by 20 or 21 alone
pub start_refused : (p : Problem) {k : ℕ} → start_table 128 p ≡ Outcome.refused k → (20 ≤ k) × (k ≤ 21)
start_refused p {k} e = pick (start_kind 128 p)
  where
    pick : Kinds p → (20 ≤ k) × (k ≤ 21)
    pick (inl f) = let i : k ≡ 20 = cc in (omega arith, omega arith)
    pick (inr (inl f)) = let i : k ≡ 21 = cc in (omega arith, omega arith)
    pick (inr (inr f)) = absurd (apart (sym e ∙ f.1))

-- ---- an answer by the outcome of a start that is refused exactly where the start is, by its number
module _ {K : Type 0} (R : ℕ → ℕ → K) (same : (i j k q : ℕ) → R i j ≡ R k q → (i ≡ k) × (j ≡ q)) (f : Outcome → K)
    (refuses : (k : ℕ) → f (Outcome.refused k) ≡ R k 0) (gives : (t : List Literals) (k q : ℕ) → f (Outcome.table t) ≡ R k q → ⊥) where
  pub refused_by_start : (o : Outcome) (k q : ℕ) → (f o ≡ R k q) ↔ ((q ≡ 0) × (o ≡ Outcome.refused k))
  refused_by_start (Outcome.refused j) k q = (
    λ e. let i = same j 0 k q (sym (refuses j) ∙ e) in (sym i.1, ap Outcome.refused i.0),
    λ h. let i : j ≡ k = cc h.1 in refuses j ∙ ap (λ (n : ℕ). R n 0) i ∙ ap (R k) (sym h.0),
  )
  refused_by_start (Outcome.table t) k q = (λ e. absurd (gives t k q e), λ h. absurd (apart (sym h.1)))
