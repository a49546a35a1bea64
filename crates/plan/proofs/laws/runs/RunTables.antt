-- A run from any table by its tables T_k: its verdict, the table that it returns, the moves taken and the rows. For ArrivedWorlds,
-- StartRuns, RunPlaces and RowCounts. Assumes nothing.
use mathlib.Core.Path.{◌≡◌, refl, ap, ◌∙◌}
use mathlib.Core.List.{List, [], ◌∷◌}
use mathlib.Core.Logic.{◌⊎◌, inl, inr, ◌↔◌, ⊎_elim}
use mathlib.Core.Option.{Option, some, some-injective, none-ne-some}
use Prim.Native.Nat.{ℕ, zero, suc, ◌+◌, ◌≤◌, ◌<◌}
use native.Mathlib.Nat.{le_of_suc-le-suc}
use native.Mathlib.Omega.{arith}
use lib.Dec.{eqb}
use lib.ListN.{length, take, get_or}
use Rattle.sheet.specs.declared.Literals.{Literals}
use Rattle.sheet.specs.Lists.{all_of}
use Rattle.sheet.specs.Problem.{Action}
use Rattle.table.specs.Minimal.{Outcome, refused, table}
use Rattle.table.specs.Step.{step_table}
use Rattle.plan.specs.declared.Row.{Row}
use Rattle.plan.specs.Run.{in_goal, ended_in, halted_by, onward, run_from, table_or, last_table, row_of, rows_or, rows_from}
use Rattle.plan.specs.inner.TableRuns.{count_or, moves_taken, then_table, table_at, Refuses}

module _ (cap : ℕ) where
  -- ---- T_k of a longer plan
  at_first : (a : Action) (plan : List Action) (t v : List Literals) (k : ℕ) → step_table cap a t ≡ table v
      → table_at cap (suc k) (a ∷ plan) t ≡ table_at cap k plan v
  at_first a plan t v k e = ap (λ (o : Outcome). then_table o (λ u. table_at cap k plan u)) e

  pub at_later : (a : Action) (plan : List Action) (t u : List Literals) (k : ℕ) → table_at cap (suc k) (a ∷ plan) t ≡ some u
      → (v : List Literals) × (step_table cap a t ≡ table v) × (table_at cap k plan v ≡ some u)
  at_later a plan t u k h = go (step_table cap a t) refl h
    where
      go : (o : Outcome) → step_table cap a t ≡ o → then_table o (λ v. table_at cap k plan v) ≡ some u
          → (v : List Literals) × (step_table cap a t ≡ table v) × (table_at cap k plan v ≡ some u)
      go (refused N) e q = absurd (none-ne-some u q)
      go (table v) e q = (v, e, q)

  later_refuses : (a : Action) (plan : List Action) (t v : List Literals) (k N : ℕ) → step_table cap a t ≡ table v
      → Refuses cap plan v k N → Refuses cap (a ∷ plan) t (suc k) N
  later_refuses a plan t v k N e r =
      record {
        last = r.last;
        arrives = at_first a plan t v k e ∙ r.arrives;
        move = r.move;
        later = r.later;
        next = r.next;
        gives = r.gives;
      }

  -- ---- the run comes to its last table, or a step gives none
  abbrev pub Story : List Action → List Literals → Type 0
  Story plan t = ((u : List Literals) × (table_at cap (length plan) plan t ≡ some u)) ⊎ ((k : ℕ) × (N : ℕ) × Refuses cap plan t k N)

  pub story : (plan : List Action) (t : List Literals) → Story plan t
  story [] t = inl (t, refl)
  story (a ∷ plan) t = go (step_table cap a t) refl (story plan)
    where
      go : (o : Outcome) → step_table cap a t ≡ o → ((u : List Literals) → Story plan u) → Story (a ∷ plan) t
      go (refused N) e ih = inr (0, N, record { last = t; arrives = refl; move = a; later = plan; next = refl; gives = e })
      go (table v) e ih = more (ih v)
        where
          more : Story plan v → Story (a ∷ plan) t
          more (inl x) = inl (x.0, at_first a plan t v (length plan) e ∙ x.1)
          more (inr x) = inr (suc x.0, x.1, later_refuses a plan t v x.0 x.1 e x.2)

  -- its first step refuses, or what comes after the first step does
  first_refuses : (a : Action) (plan : List Action) (t : List Literals) (N : ℕ) → Refuses cap (a ∷ plan) t 0 N
      → step_table cap a t ≡ refused N
  first_refuses a plan t N r =
      let m : a ≡ r.move = cc r.next in
      let l : t ≡ r.last = cc r.arrives in
      rw (m, l) r.gives

  rest_refuses : (a : Action) (plan : List Action) (t : List Literals) (k N : ℕ) → Refuses cap (a ∷ plan) t (suc k) N
      → (v : List Literals) × (step_table cap a t ≡ table v) × Refuses cap plan v k N
  rest_refuses a plan t k N r =
      let x = at_later a plan t r.last k r.arrives in
      (x.0, x.1, record { last = r.last; arrives = x.2; move = r.move; later = r.later; next = r.next; gives = r.gives })

  nothing_refuses : {X : Type 0} (t : List Literals) (k N : ℕ) → Refuses cap [] t k N → X
  nothing_refuses t zero N r = let z : ◌≡◌ {A = ℕ} 0 1 = cc r.next in absurd (omega arith)
  nothing_refuses t (suc k) N r = absurd (none-ne-some r.last r.arrives)

  -- a refused move is one of the plan, and the moves after it play no part
  pub refuses_within : (plan : List Action) (t : List Literals) (k N : ℕ) → Refuses cap plan t k N → k < length plan
  refuses_within [] t k N r = nothing_refuses t k N r
  refuses_within (a ∷ plan) t zero N r = omega arith
  refuses_within (a ∷ plan) t (suc k) N r = let x = rest_refuses a plan t k N r in omega (arith, refuses_within plan x.0 k N x.2)

  pub refuses_prefix : (plan : List Action) (t : List Literals) (k N : ℕ) → Refuses cap plan t k N → Refuses cap (take (suc k) plan) t k N
  refuses_prefix [] t k N r = nothing_refuses t k N r
  refuses_prefix (a ∷ plan) t zero N r = record
      { last = t; arrives = refl; move = a; later = []; next = refl; gives = first_refuses a plan t N r }
  refuses_prefix (a ∷ plan) t (suc k) N r =
      let x = rest_refuses a plan t k N r in
      later_refuses a (take (suc k) plan) t x.0 k N x.1 (refuses_prefix plan x.0 k N x.2)

  -- ---- the verdict, from `place` moves on
  pub run_ended : (goal : List Literals) (place : ℕ) (plan : List Action) (t u : List Literals) → table_at cap (length plan) plan t ≡ some u
      → run_from cap goal place plan t ≡ ended_in (all_of (in_goal goal) u)
  run_ended goal place [] t u h = ap (λ (x : List Literals). ended_in (all_of (in_goal goal) x)) (some-injective t u h)
  run_ended goal place (a ∷ plan) t u h =
      let x = at_later a plan t u (length plan) h in
      ap (λ (o : Outcome). onward o (suc place) (λ v. run_from cap goal (suc place) plan v)) x.1
      ∙ run_ended goal (suc place) plan x.0 u x.2

  pub run_refused_lem : (goal : List Literals) (place : ℕ) (plan : List Action) (t : List Literals) (k N : ℕ) → Refuses cap plan t k N
      → run_from cap goal place plan t ≡ halted_by (eqb N 21) (suc (place + k)) N
  run_refused_lem goal place [] t k N r = nothing_refuses t k N r
  run_refused_lem goal place (a ∷ plan) t zero N r =
      let q : place ≡ place + 0 = omega arith in
      ap (λ (o : Outcome). onward o (suc place) (λ v. run_from cap goal (suc place) plan v)) (first_refuses a plan t N r)
      ∙ ap (λ (i : ℕ). halted_by (eqb N 21) (suc i) N) q
  run_refused_lem goal place (a ∷ plan) t (suc k) N r =
      let x = rest_refuses a plan t k N r in
      let q : suc place + k ≡ place + suc k = omega arith in
      ap (λ (o : Outcome). onward o (suc place) (λ v. run_from cap goal (suc place) plan v)) x.1
      ∙ run_refused_lem goal (suc place) plan x.0 k N x.2
      ∙ ap (λ (i : ℕ). halted_by (eqb N 21) (suc i) N) q

  -- ---- the moves taken, and the table returned
  pub last_at : (plan : List Action) (t : List Literals) → table_at cap (moves_taken cap plan t) plan t ≡ some (last_table cap plan t)
  last_at [] t = refl
  last_at (a ∷ plan) t = go (step_table cap a t) refl (last_at plan)
    where
      go : (o : Outcome) → step_table cap a t ≡ o
          → ((v : List Literals) → table_at cap (moves_taken cap plan v) plan v ≡ some (last_table cap plan v))
          → table_at cap (count_or o (λ v. moves_taken cap plan v)) (a ∷ plan) t ≡ some (table_or o t (λ v. last_table cap plan v))
      go (refused N) e ih = refl
      go (table v) e ih = at_first a plan t v (moves_taken cap plan v) e ∙ ih v

  pub taken_all : (plan : List Action) (t u : List Literals) → table_at cap (length plan) plan t ≡ some u
      → moves_taken cap plan t ≡ length plan
  taken_all [] t u h = refl
  taken_all (a ∷ plan) t u h =
      let x = at_later a plan t u (length plan) h in
      ap (λ (o : Outcome). count_or o (λ v. moves_taken cap plan v)) x.1 ∙ ap suc (taken_all plan x.0 u x.2)

  pub taken_refused : (plan : List Action) (t : List Literals) (k N : ℕ) → Refuses cap plan t k N → moves_taken cap plan t ≡ k
  taken_refused [] t k N r = nothing_refuses t k N r
  taken_refused (a ∷ plan) t zero N r = ap (λ (o : Outcome). count_or o (λ v. moves_taken cap plan v)) (first_refuses a plan t N r)
  taken_refused (a ∷ plan) t (suc k) N r =
      let x = rest_refuses a plan t k N r in
      ap (λ (o : Outcome). count_or o (λ v. moves_taken cap plan v)) x.1 ∙ ap suc (taken_refused plan x.0 k N x.2)

  -- no more than the plan has
  pub taken_within : (plan : List Action) (t : List Literals) → moves_taken cap plan t ≤ length plan
  taken_within plan t =
      ⊎_elim (λ x. omega (arith, taken_all plan t x.0 x.1))
      (λ x. omega (arith, taken_refused plan t x.0 x.1 x.2, refuses_within plan t x.0 x.1 x.2)) (story plan t)

  -- T_i exists exactly for the places arrived at
  pub arrived : (plan : List Action) (t : List Literals) (i : ℕ) → (i ≤ moves_taken cap plan t)
      ↔ ((u : List Literals) × (table_at cap i plan t ≡ some u))
  arrived plan t zero = (λ h. (t, refl), λ x. omega arith)
  arrived [] t (suc i) = (λ h. absurd (omega arith), λ x. absurd (none-ne-some x.0 x.1))
  arrived (a ∷ plan) t (suc i) = go (step_table cap a t) refl (λ v. arrived plan v i)
    where
      go : (o : Outcome) → step_table cap a t ≡ o
          → ((v : List Literals) → (i ≤ moves_taken cap plan v) ↔ ((u : List Literals) × (table_at cap i plan v ≡ some u)))
          → (suc i ≤ count_or o (λ v. moves_taken cap plan v)) ↔
          ((u : List Literals) × (then_table o (λ v. table_at cap i plan v) ≡ some u))
      go (refused N) e ih = (λ h. absurd (omega arith), λ x. absurd (none-ne-some x.0 x.1))
      go (table v) e ih = (λ h. (ih v).0 (le_of_suc-le-suc h), λ x. omega (arith, (ih v).1 x))

  -- ---- the rows
  pub rows_length : (place : ℕ) (plan : List Action) (t : List Literals) → length (rows_from cap place plan t) ≡ suc
      (moves_taken cap plan t)
  rows_length place [] t = refl
  rows_length place (a ∷ plan) t = go (step_table cap a t) (rows_length (suc place) plan)
    where
      go : (o : Outcome) → ((v : List Literals) → length (rows_from cap (suc place) plan v) ≡ suc (moves_taken cap plan v))
          → suc (length (rows_or o (λ v. rows_from cap (suc place) plan v))) ≡ suc (count_or o (λ v. moves_taken cap plan v))
      go (refused N) ih = refl
      go (table v) ih = ap suc (ih v)

  rowed : (place : ℕ) (t u : List Literals) → ◌≡◌ {A = Option (List Literals)} (some t) (some u) → row_of place t ≡ row_of (place + 0) u
  rowed place t u h =
      let q : place ≡ place + 0 = omega arith in
      let e : t ≡ u = some-injective t u h in
      cc

  pub row_at_lem : (place : ℕ) (plan : List Action) (t : List Literals) (i : ℕ) (u : List Literals) (d : Row) → table_at cap i plan t ≡
      some u
      → get_or (rows_from cap place plan t) i d ≡ row_of (place + i) u
  row_at_lem place [] t zero u d h = rowed place t u h
  row_at_lem place (a ∷ plan) t zero u d h = rowed place t u h
  row_at_lem place [] t (suc i) u d h = absurd (none-ne-some u h)
  row_at_lem place (a ∷ plan) t (suc i) u d h =
      let x = at_later a plan t u i h in
      let q : suc place + i ≡ place + suc i = omega arith in
      ap (λ (o : Outcome). get_or (rows_or o (λ v. rows_from cap (suc place) plan v)) i d) x.1 ∙ row_at_lem (suc place) plan x.0 i u d x.2
      ∙ ap (λ (j : ℕ). row_of j u) q
