-- The first answer among plans in order: over lists one after another, and by the first move. For SearchReturns, NoShorterPlans and
-- SheetSearches. Assumes nothing.
use mathlib.Core.Path.{◌≡◌, refl, sym, ap, ◌∙◌}
use mathlib.Core.Bool.{Bool, true, false, true≢false}
use mathlib.Core.List.{List, [], ◌∷◌, ◌++◌, map, append-nil}
use Prim.Native.Nat.{ℕ, zero, suc, ◌+◌, ◌<◌}
use native.Mathlib.Nat.{not-suc-le-zero}
use native.Mathlib.Numerals.{add-one}
use native.Mathlib.Omega.{arith}
use native.Mathlib.Decide.{ℕ_discrete}
use lib.ListN.{replicate}
use borrow.Author.Tests.{ne_eqb}
use Rattle.sheet.specs.declared.Literals.{Literals}
use Rattle.sheet.specs.Lists.{All, collect}
use Rattle.sheet.specs.Problem.{Action}
use Rattle.table.specs.Minimal.{Outcome, refused, table}
use Rattle.table.specs.Step.{step_table}
use Rattle.plan.specs.Run.{Verdict, reached, short, stopped, full, halted_by, onward, run_from}
use Rattle.plan.specs.Search.{upto, plans_of, Answer, found, full_at, nothing, or_next, first_of}
use Rattle.plan.specs.inner.Searches.{ran_from, first_from, first_by}
use Rattle.plan.proofs.laws.searches.PlanOrder.{collect_append}

-- the first answer, or else the second
abbrev or_else : Answer → Answer → Answer
or_else (found p) g = found p
or_else (full_at p k) g = full_at p k
or_else nothing g = g

-- it is an answer
abbrev pub some : Answer → Bool
some (found p) = true
some (full_at p k) = true
some nothing = false

pub is_nothing : (f : Answer) → some f ≡ false → f ≡ nothing
is_nothing (found p) e = absurd (true≢false e)
is_nothing (full_at p k) e = absurd (true≢false e)
is_nothing nothing e = refl

or_some : (f g : Answer) → some f ≡ true → or_else f g ≡ f
or_some (found p) g e = refl
or_some (full_at p k) g e = refl
or_some nothing g e = absurd (true≢false (sym e))

first_append : (run : List ℕ → Verdict) (ps qs : List (List ℕ)) → first_of run (ps ++ qs) ≡ or_else (first_of run ps) (first_of run qs)
first_append run [] qs = refl
first_append run (p ∷ ps) qs = go (run p) (first_append run ps qs)
  where
    go : (v : Verdict) → first_of run (ps ++ qs) ≡ or_else (first_of run ps) (first_of run qs)
        → or_next v p (first_of run (ps ++ qs)) ≡ or_else (or_next v p (first_of run ps)) (first_of run qs)
    go reached e = refl
    go short e = e
    go (stopped k c) e = e
    go (full k) e = refl

-- ---- the first answer among g 0, g 1 and so on, below k
abbrev pub first_below : (ℕ → Answer) → ℕ → Answer
first_below g zero = nothing
first_below g (suc k) = or_else (first_below g k) (g k)

pub first_below_lem : (run : List ℕ → Verdict) (f : ℕ → List (List ℕ)) (k : ℕ)
    → first_of run (collect f (upto k)) ≡ first_below (λ i. first_of run (f i)) k
first_below_lem run f zero = refl
first_below_lem run f (suc k) =
    ap (first_of run) (collect_append f (upto k) (k ∷ []))
    ∙ first_append run (collect f (upto k)) (f k ++ [])
    ∙ ap (λ (l : List (List ℕ)). or_else (first_of run (collect f (upto k))) (first_of run l)) (append-nil (f k))
    ∙ ap (λ (x : Answer). or_else x (first_of run (f k))) (first_below_lem run f k)

-- a loop that tries g 0, g 1 and so on: one more without an answer, and the first answer
pub none_next : (g : ℕ → Answer) (m : ℕ) → first_below g m ≡ nothing → some (g m) ≡ false → first_below g (m + 1) ≡ nothing
none_next g m h e = ap (first_below g) (add-one m) ∙ ap (λ (x : Answer). or_else x (g m)) h ∙ is_nothing (g m) e

pub found_here : (g : ℕ → Answer) (m k : ℕ) → first_below g m ≡ nothing → m < k → some (g m) ≡ true → first_below g k ≡ g m
found_here g m zero h l e = absurd (not-suc-le-zero l)
found_here g m (suc k) h l e = go (ℕ_discrete m k) (λ l'. found_here g m k h l' e)
  where
    go : Dec (m ≡ k) → (m < k → first_below g k ≡ g m) → or_else (first_below g k) (g k) ≡ g m
    go (yes q) below = ap (λ (x : ℕ). or_else (first_below g x) (g x)) (sym q) ∙ ap (λ (x : Answer). or_else x (g m)) h
    go (no n) below = ap (λ (x : Answer). or_else x (g k)) (below (omega arith)) ∙ or_some (g m) (g k) e

or_nothing : (f g : Answer) → or_else f g ≡ nothing → (f ≡ nothing) × (g ≡ nothing)
or_nothing (found p) g e = absurd (true≢false (ap some e))
or_nothing (full_at p k) g e = absurd (true≢false (ap some e))
or_nothing nothing g e = (refl, e)

pub each_nothing : (g : ℕ → Answer) (k : ℕ) → first_below g k ≡ nothing → (m : ℕ) → m < k → g m ≡ nothing
each_nothing g zero e m h = absurd (not-suc-le-zero h)
each_nothing g (suc k) e m h = go (ℕ_discrete m k) (or_nothing (first_below g k) (g k) e) (each_nothing g k)
  where
    go : Dec (m ≡ k) → (first_below g k ≡ nothing) × (g k ≡ nothing) → (first_below g k ≡ nothing → (i : ℕ) → i < k → g i ≡ nothing)
        → g m ≡ nothing
    go (yes q) x below = ap g q ∙ x.1
    go (no n) x below = below x.0 m (omega arith)

-- ---- plans that begin with one move
-- the answer with move m before its plan
abbrev pub consed : ℕ → Answer → Answer
consed m (found p) = found (m ∷ p)
consed m (full_at p k) = full_at (m ∷ p) k
consed m nothing = nothing

first_map : (run : List ℕ → Verdict) (m : ℕ) (ps : List (List ℕ))
    → first_of run (map (λ p. m ∷ p) ps) ≡ consed m (first_of (λ p. run (m ∷ p)) ps)
first_map run m [] = refl
first_map run m (p ∷ ps) = go (run (m ∷ p)) (first_map run m ps)
  where
    go : (v : Verdict) → first_of run (map (λ q. m ∷ q) ps) ≡ consed m (first_of (λ q. run (m ∷ q)) ps)
        → or_next v (m ∷ p) (first_of run (map (λ q. m ∷ q) ps)) ≡ consed m (or_next v p (first_of (λ q. run (m ∷ q)) ps))
    go reached e = refl
    go short e = e
    go (stopped k c) e = e
    go (full k) e = refl

all_stopped : (k code : ℕ) (ps : List (List ℕ)) → first_of (λ p. stopped k code) ps ≡ nothing
all_stopped k code [] = refl
all_stopped k code (p ∷ ps) = all_stopped k code ps

-- where every run is full, the plan of move 0 alone is the first
all_full : (moves left k : ℕ) → 0 < moves → first_of (λ p. full k) (plans_of moves left) ≡ full_at (replicate left 0) k
all_full moves zero k h = refl
all_full moves (suc left) k h =
    let g : ℕ → Answer = λ i. first_of (λ p. full k) (map (λ p. i ∷ p) (plans_of moves left)) in
    let e : g 0 ≡ full_at (replicate (suc left) 0) k = first_map (λ p. full k) 0 (plans_of moves left)
    ∙ ap (consed 0) (all_full moves left k h) in
    first_below_lem (λ p. full k) (λ i. map (λ p. i ∷ p) (plans_of moves left)) moves ∙ found_here g 0 moves refl h (ap some e) ∙ e

-- ---- from a table
module _ (goal : List Literals) (f : ℕ → Action) (k : ℕ) (at : ℕ) (t : List Literals) where
  pub first_by_moves : (n : ℕ) → first_from goal f k at t (suc n) ≡ first_below (first_by goal f k at t n) k
  first_by_moves n = first_below_lem (ran_from goal f at t) (λ i. map (λ p. i ∷ p) (plans_of k n)) k

  -- the step of the first move decides: the plans from its table; none stopped; the first is full
  module _ (m n : ℕ) where
    by_step : (o : Outcome) → step_table 128 (f m) t ≡ o
        → first_by goal f k at t n m ≡ consed m (first_of (λ p. onward o (suc at) (λ u. run_from 128 goal (suc at) (map f p) u))
        (plans_of k n))
    by_step o e =
        first_map (ran_from goal f at t) m (plans_of k n)
        ∙ ap (λ (x : Outcome). consed m (first_of (λ p. onward x (suc at) (λ u. run_from 128 goal (suc at) (map f p) u)) (plans_of k n))) e

    pub by_table : (u : List Literals) → step_table 128 (f m) t ≡ table u
        → first_by goal f k at t n m ≡ consed m (first_from goal f k (at + 1) u n)
    by_table u e = by_step (table u) e ∙ ap (λ (i : ℕ). consed m (first_of (ran_from goal f i u) (plans_of k n))) (sym (add-one at))

    pub by_stop : (code : ℕ) → step_table 128 (f m) t ≡ refused code → (code ≡ 21 → ⊥) → first_by goal f k at t n m ≡ nothing
    by_stop code e q = by_step (refused code) e ∙ ap (λ (b : Bool). consed m (first_of (λ p. halted_by b (suc at) code) (plans_of k n)))
        (ne_eqb code 21 q) ∙ ap (consed m) (all_stopped (suc at) code (plans_of k n))

    pub by_full : 0 < k → step_table 128 (f m) t ≡ refused 21 → first_by goal f k at t n m ≡ full_at (m ∷ replicate n 0) (at + 1)
    by_full h e =
        by_step (refused 21) e ∙ ap (consed m) (all_full k n (suc at) h) ∙ ap (full_at (m ∷ replicate n 0)) (sym (add-one at))

-- the same moves below k, the same answer
pub same_first : (run run' : List ℕ → Verdict) (ps : List (List ℕ)) → All (λ p. run p ≡ run' p) ps → first_of run ps ≡ first_of run' ps
same_first run run' [] h = refl
same_first run run' (p ∷ ps) h = ap (λ (v : Verdict). or_next v p (first_of run ps)) h.0
    ∙ ap (or_next (run' p) p) (same_first run run' ps h.1)
