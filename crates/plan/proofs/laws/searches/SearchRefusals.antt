-- TH4 for the call `search`, whatever the bytes and the limit: each number exactly on its own condition, in document 01's order, and what
-- comes back beside it. For `search` and `back` in proofs/Demands, and for `search_with`. Assumes nothing.
use mathlib.Core.Path.{◌≡◌, refl, ap}
use mathlib.Core.Bool.{Bool, true, false, cond}
use mathlib.Core.List.{List}
use mathlib.Core.Logic.{◌↔◌}
use Prim.Native.Nat.{ℕ, ◌≤◌, ◌<◌}
use native.Mathlib.Omega.{arith}
use lib.Dec.{ltb}
use lib.ListN.{replicate}
use borrow.Author.Tests.{ltb-true, ltb-false, lt-ltb, le-ltb}
use Rattle.sheet.specs.Lists.{pad}
use Rattle.sheet.specs.Problem.{Problem, Statement}
use Rattle.sheet.specs.Format.{Judgement, accepted, refused, sheet_of}
use Rattle.sheet.specs.Calls.{Refused}
use Rattle.sheet.specs.Faults.{Says}
use Rattle.table.specs.Minimal.{Outcome}
use Rattle.table.specs.Start.{start_table}
use Rattle.table.specs.Calls.{start_of}
use Rattle.table.proofs.Demands as tables
use Rattle.plan.specs.declared.Kind.TheVariants as kind
use Rattle.plan.specs.Search.{Answer, found, full_at, nothing}
use Rattle.plan.specs.Calls.{refused_search, answered, searched, search_of}
use Rattle.plan.specs.declared.SearchAnswer.{SearchAnswer}
use Rattle.plan.proofs.laws.runs.StartOutcomes.{start_refused, refused_by_start}

-- ---- the search by the outcome of the start
-- what it answers is no refusal
not_answered : (a : Answer) (k q : ℕ) → (answered a).kind ≡ kind.Refused k q → ⊥
unfolding answered
not_answered (found plan) k q e = let z : ◌≡◌ {A = ℕ} 0 1 = cc in omega arith
not_answered (full_at plan place) k q e = let z : ◌≡◌ {A = ℕ} 0 1 = cc in omega arith
not_answered nothing k q e = let z : ◌≡◌ {A = ℕ} 0 1 = cc in omega arith

module _ (p : Problem) (limit : ℕ) where
  searched_refused : (o : Outcome) (k q : ℕ) → ((searched p limit o).kind ≡ kind.Refused k q) ↔ ((q ≡ 0) × (o ≡ Outcome.refused k))
  unfolding searched refused_search
  searched_refused = refused_by_start kind.Refused (λ i j k q e. (cc, cc)) (λ o. (searched p limit o).kind) (λ k. refl)
      (λ t. not_answered _)

  searched_back : (o : Outcome) (k q : ℕ) → (searched p limit o).kind ≡ kind.Refused k q → ((searched p limit o).plan ≡ replicate 8 0)
      × ((searched p limit o).length ≡ 0)
  unfolding searched refused_search pad
  searched_back (Outcome.refused j) k q e = (refl, refl)
  searched_back (Outcome.table t) k q e = absurd (not_answered _ k q e)

-- ---- the numbers in their order
-- a fault of the sheet comes first
pub search_fault : (s : List ℕ) (limit k p : ℕ) → sheet_of s ≡ refused k p → search_of (sheet_of s) limit ≡ refused_search k p
unfolding search_of
search_fault s limit k p e = rw e

module _ (s : List ℕ) (x : Statement) (says : sheet_of s ≡ accepted x) (limit : ℕ) where
  -- no higher: by the outcome of the start
  pub search_within : limit ≤ 8 → search_of (sheet_of s) limit ≡ searched x.problem limit (start_table 128 x.problem)
  unfolding search_of
  search_within h = rw (says, le-ltb 8 limit h)

  -- 8: a limit above 8
  pub search_8 : 8 < limit → search_of (sheet_of s) limit ≡ refused_search 8 0
  unfolding search_of
  search_8 h = rw (says, lt-ltb 8 limit h)

  -- then 20 or 21, by the working order of the start (TH2)
  pub search_number : limit ≤ 8 → (k q : ℕ) → ((search_of (sheet_of s) limit).kind ≡ kind.Refused k q)
      ↔ ((q ≡ 0) × (start_table 128 x.problem ≡ Outcome.refused k))
  search_number h k q = rw (search_within h) (searched_refused x.problem limit (start_table 128 x.problem) k q)

  -- 8 is answered for too high a limit alone
  pub search_8_only : (q : ℕ) → (search_of (sheet_of s) limit).kind ≡ kind.Refused 8 q → 8 < limit
  search_8_only q e = go (ltb 8 limit) refl
    where
      go : (b : Bool) → ltb 8 limit ≡ b → 8 < limit
      go true f = ltb-true 8 limit f
      go false f = absurd (omega (arith, (start_refused x.problem ((search_number (ltb-false 8 limit f) 8 q).0 e).1).0))

-- a refused search gives a plan of zeros and length 0
pub search_back : (s : List ℕ) (limit k q : ℕ) → (search_of (sheet_of s) limit).kind ≡ kind.Refused k q
    → ((search_of (sheet_of s) limit).plan ≡ replicate 8 0) × ((search_of (sheet_of s) limit).length ≡ 0)
unfolding search_of refused_search pad
search_back s limit k q = go (sheet_of s)
  where
    by_limit : (b : Bool) (p : Problem) → (cond b (refused_search 8 0) (searched p limit (start_table 128 p))).kind ≡ kind.Refused k q
        → ((cond b (refused_search 8 0) (searched p limit (start_table 128 p))).plan ≡ replicate 8 0)
        × ((cond b (refused_search 8 0) (searched p limit (start_table 128 p))).length ≡ 0)
    by_limit true p e = (refl, refl)
    by_limit false p e = searched_back p limit (start_table 128 p) k q e

    go : (j : Judgement) → (search_of j limit).kind ≡ kind.Refused k q → ((search_of j limit).plan ≡ replicate 8 0)
        × ((search_of j limit).length ≡ 0)
    go (refused i p) e = (refl, refl)
    go (accepted x) e = by_limit (ltb 8 limit) x.problem e

-- ---- as the demands say it
module _ (s : List ℕ) (x : Statement) (says : Says s x) where
  pub search_above : (limit : ℕ) → ((search_of (sheet_of s) limit).kind ≡ kind.Refused 8 0) ↔ (8 < limit)
  unfolding refused_search
  search_above limit = (search_8_only s x says limit 0, λ h. ap (λ (r : SearchAnswer). r.kind) (search_8 s x says limit h))

  pub search_start : (limit : ℕ) → limit ≤ 8 → (k q : ℕ) → ((search_of (sheet_of s) limit).kind ≡ kind.Refused k q)
      ↔ ((start_of (sheet_of s)).answer ≡ Refused k q)
  search_start limit h k q =
      let i = search_number s x says limit h k q in
      let j = tables.start_number s x says k q in
      (λ e. j.1 (i.0 e), λ e. i.1 (j.0 e))
