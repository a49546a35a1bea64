-- The calls start, step and picture on an accepted sheet, each number exactly on its own condition, by worlds where it is one of worlds.
-- For the page of demands (plan/specs/Demands, plan/proofs/Demands). Assumes nothing.
use mathlib.Core.Path.{◌≡◌, refl, sym, ap, ◌∙◌}
use mathlib.Core.Bool.{Bool, true, false, not, cond, true≢false}
use mathlib.Core.List.{List, [], ◌∷◌}
use mathlib.Core.Logic.{◌⊎◌, inl, inr, ◌↔◌}
use mathlib.Core.Option.{Option, none, some}
use Prim.Native.Nat.{ℕ, ◌+◌, ◌*◌, ◌^◌, ◌≤◌, ◌<◌}
use native.Mathlib.Omega.{arith}
use lib.Dec.{T, ltb}
use lib.ListN.{length, replicate, length-replicate}
use borrow.Author.Tests.{ltb-true, ltb-false}
use Rattle.sheet.specs.declared.Literals.{Literals}
use Rattle.sheet.specs.Calls.{Answer, Accepted, Refused}
use Rattle.sheet.proofs.laws.reader.ReadSheets.{same_fault}
use Rattle.sheet.specs.Literals.{within, state}
use Rattle.sheet.specs.Problem.{Action, Problem, Statement}
use Rattle.sheet.specs.Format.{sheet_of}
use Rattle.sheet.specs.Faults.{Says}
use Rattle.sheet.specs.Encoding.{ProperAction, ProperProblem}
use Rattle.sheet.proofs.laws.base.Bools.{test}
use Rattle.sheet.proofs.Demands.{statement_proper}
use Rattle.table.specs.declared.Table.{Table}
use Rattle.table.specs.declared.PictureAnswer.{PictureAnswer}
use Rattle.table.specs.Worlds.{step_world}
use Rattle.table.specs.Minimal.{In, described, Outcome}
use Rattle.table.specs.Start.{start_clauses, grow_all, start_table}
use Rattle.table.specs.Step.{step_table}
use Rattle.table.specs.Picture.{Ascending, picture}
use Rattle.table.specs.Prime.{Exactly}
use Rattle.table.specs.Entries.{entries, table_of}
use Rattle.table.specs.Calls.{start_of, action_at, step_of}
use Rattle.table.specs.PictureCalls.{refusal, too_long, given, picture_of}
use Rattle.table.specs.CallWords.{OnSheet, AsDescribed, Starts, Unsure, Contradictory, Untaken, StartStops, put_images}
use Rattle.table.proofs.laws.steps.StepWorlds.{at_proper}
use Rattle.table.proofs.Demands as tables
use Rattle.table.proofs.laws.steps.StepWorlds as stepping
use Rattle.table.proofs.laws.answers.CallTables as called

-- ---- start
module _ (s : List ℕ) (x : Statement) (says : Says s x) where
  abbrev p : Problem
  p = x.problem

  hp : ProperProblem p
  hp = (statement_proper s x says).problem

  pub start_20 : ((start_of (sheet_of s)).answer ≡ Refused 20 0) ↔ StartStops x.problem (some [])
  start_20 = (
    λ e. (tables.start_first 128 p).0.0 ((tables.start_number s x says 20 0).0 e).1,
    λ r. (tables.start_number s x says 20 0).1 (refl, (tables.start_first 128 p).0.1 r),
  )

  pub start_21 : ((start_of (sheet_of s)).answer ≡ Refused 21 0) ↔ StartStops x.problem none
  start_21 = (
    λ e. (tables.start_first 128 p).1.0 ((tables.start_number s x says 21 0).0 e).1,
    λ r. (tables.start_number s x says 21 0).1 (refl, (tables.start_first 128 p).1.1 r),
  )

  pub start_accepted : ((start_of (sheet_of s)).answer ≡ Accepted)
      ↔ ((t : List Literals) × (grow_all 128 (start_clauses x.problem) (x.problem.known ∷ []) ≡ Outcome.table t)
      × ((start_of (sheet_of s)).table ≡ table_of t))
  unfolding start_table
  start_accepted = (called.started s x says, λ h. (tables.start_accepted s x says).1 (h.0, h.1))

  pub start_world : (start_of (sheet_of s)).answer ≡ Refused 20 0 → (w : ℕ) → Starts x.problem w → ⊥
  start_world e w st = tables.start_20 p hp 128 ((tables.start_number s x says 20 0).0 e).1 w st.0 st.1

  pub start_none : ((w : ℕ) → Starts x.problem w → ⊥) → ((start_of (sheet_of s)).answer ≡ Refused 20 0)
      ⊎ ((start_of (sheet_of s)).answer ≡ Refused 21 0)
  start_none f = go (tables.start_none p hp 128 (λ w l st. f w (l, st)))
    where
      go : (start_table 128 p ≡ Outcome.refused 20) ⊎ (start_table 128 p ≡ Outcome.refused 21) →
          ((start_of (sheet_of s)).answer ≡ Refused 20 0)
          ⊎ ((start_of (sheet_of s)).answer ≡ Refused 21 0)
      go (inl e) = inl ((tables.start_number s x says 20 0).1 (refl, e))
      go (inr e) = inr ((tables.start_number s x says 21 0).1 (refl, e))

  pub start_numbers : ((start_of (sheet_of s)).answer ≡ Accepted)
      ⊎ (((start_of (sheet_of s)).answer ≡ Refused 20 0) ⊎ ((start_of (sheet_of s)).answer ≡ Refused 21 0))
  start_numbers = go (tables.start_kind 128 p)
    where
      go : (start_table 128 p ≡ Outcome.refused 20) ⊎
          ((start_table 128 p ≡ Outcome.refused 21) ⊎ ((t : List Literals) × (start_table 128 p ≡ Outcome.table t)))
          → ((start_of (sheet_of s)).answer ≡ Accepted) ⊎
          (((start_of (sheet_of s)).answer ≡ Refused 20 0) ⊎ ((start_of (sheet_of s)).answer ≡ Refused 21 0))
      go (inl e) = inr (inl ((tables.start_number s x says 20 0).1 (refl, e)))
      go (inr (inl e)) = inr (inr ((tables.start_number s x says 21 0).1 (refl, e)))
      go (inr (inr e)) = inl ((tables.start_accepted s x says).1 e)

  pub start_else : (w : ℕ) → Starts x.problem w → ((start_of (sheet_of s)).answer ≡ Accepted) ⊎
      ((start_of (sheet_of s)).answer ≡ Refused 21 0)
  start_else w st = go start_numbers
    where
      go : ((start_of (sheet_of s)).answer ≡ Accepted) ⊎
          (((start_of (sheet_of s)).answer ≡ Refused 20 0) ⊎ ((start_of (sheet_of s)).answer ≡ Refused 21 0))
          → ((start_of (sheet_of s)).answer ≡ Accepted) ⊎ ((start_of (sheet_of s)).answer ≡ Refused 21 0)
      go (inl e) = inl e
      go (inr (inl e)) = absurd (start_world e w st)
      go (inr (inr e)) = inr e

-- ---- step
module _ (s : List ℕ) (x : Statement) (says : Says s x) (t : Table) (m : ℕ) where
  abbrev n : ℕ
  n = x.problem.n

  abbrev a : Action
  a = action_at x.problem m

  abbrev answer : Answer
  answer = (step_of (sheet_of s) t m).answer

  abbrev o : Outcome
  o = step_table 128 (action_at x.problem m) (entries t)

  step_hp : ProperProblem x.problem
  step_hp = (statement_proper s x says).problem

  abbrev count : ℕ
  count = length x.problem.actions

  pub step_7 : ((step_of (sheet_of s) t m).answer ≡ Refused 7 0) ↔ (OnSheet x m → ⊥)
  step_7 = (λ e l. omega (arith, (tables.step_7 s x says t m).0 e), λ f. (tables.step_7 s x says t m).1 (go f (ltb m count) refl))
    where
      go : (OnSheet x m → ⊥) → (b : Bool) → ltb m count ≡ b → count ≤ m
      go f true e = absurd (f (ltb-true m count e))
      go f false e = ltb-false m count e

  number : (k : ℕ) → (k ≡ 24) ⊎ ((k ≡ 25) ⊎ (k ≡ 21)) → ((step_of (sheet_of s) t m).answer ≡ Refused k 0)
      ↔ (OnSheet x m × AsDescribed x t × (o ≡ Outcome.refused k))
  number k h = tables.step_number s x says t m k h

  -- on the sheet, and as described
  module _ (on : OnSheet x m) (fits : AsDescribed x t) where
    ha : ProperAction n a
    ha = at_proper x.problem step_hp m on

    unsure : (o ≡ Outcome.refused 24) ↔ Unsure x t m
    unsure =
        let r = tables.step_24 n step_hp.n_most a ha (entries t) fits 128 in (
          λ e. let k = r.0 e in (k.0, (k.1.1.0, k.1.0), k.1.1.1),
          λ k. r.1 (k.0, (k.1.1, (k.1.0, k.2))),
        )

    sure : (Unsure x t m → ⊥) → (w : ℕ) → w < 2 ^ n → In n (entries t) w → T (within a.precondition (state n w))
    sure f w l i = go (test (within a.precondition (state n w)))
      where
        go : T (within a.precondition (state n w)) ⊎ T (not (within a.precondition (state n w)))
            → T (within a.precondition (state n w))
        go (inl k) = k
        go (inr k) = absurd (f (w, (l, i), k))

    unclear : (o ≡ Outcome.refused 25) ↔ ((Unsure x t m → ⊥) × Contradictory x t m)
    unclear =
        let r = tables.step_25 n step_hp.n_most a ha (entries t) fits 128 in (
          λ e. let k = r.0 e in let c = k.1 in
              (λ u. let z : ◌≡◌ {A = ℕ} 24 25 = cc (unsure.1 u, e) in omega arith, (c.0, (c.1.1.0, c.1.0), c.1.1.1)),
          λ k. r.1 (sure k.0, (k.1.0, (k.1.1.1, (k.1.1.0, k.1.2)))),
        )

    filled : (o ≡ Outcome.refused 21) ↔ ((Unsure x t m → ⊥) × (Contradictory x t m → ⊥) × (put_images x t m ≡ none))
    filled =
        let r = tables.step_21 n step_hp.n_most a ha (entries t) fits 128 in (
          λ e. (
            λ u. let z : ◌≡◌ {A = ℕ} 24 21 = cc (unsure.1 u, e) in omega arith,
            λ c. let z : ◌≡◌ {A = ℕ} 25 21 = cc (unclear.1 (λ u. let z : ◌≡◌ {A = ℕ} 24 21 = cc (unsure.1 u, e) in omega arith, c), e) in
                omega arith,
            (r.0 e).1.1,
          ),
          λ k. r.1 (
            λ u. k.0 (u.0, (u.1.1.0, u.1.0), u.1.1.1),
            (λ c. k.1 (c.1.0, (c.1.1.1.0, c.1.1.0), c.1.1.1.1), k.2),
          ),
        )

    came : (u : List Literals) → o ≡ Outcome.table u → (Unsure x t m → ⊥) × (Contradictory x t m → ⊥) × (put_images x t m ≡ some u)
    came u e = (
      not_unsure,
      λ c. let z : ◌≡◌ {A = ℕ} 0 1 = cc (unclear.1 (not_unsure, c), e) in omega arith,
      (stepping.put_images_lem n step_hp.n_most a ha (entries t) fits.proper 128 u e).1.1,
    )
      where
        not_unsure : Unsure x t m → ⊥
        not_unsure k = let z : ◌≡◌ {A = ℕ} 0 1 = cc (unsure.1 k, e) in omega arith

    comes : (Unsure x t m → ⊥) → (Contradictory x t m → ⊥) → (u : List Literals) → put_images x t m ≡ some u → (v : List Literals)
        × (o ≡ Outcome.table v)
    comes f g u e = go (tables.step_kind n step_hp.n_most a ha (entries t) fits 128)
      where
        go : (o ≡ Outcome.refused 24) ⊎
            ((o ≡ Outcome.refused 25) ⊎ ((o ≡ Outcome.refused 21) ⊎ ((v : List Literals) × (o ≡ Outcome.table v)))) → (v : List Literals)
            × (o ≡ Outcome.table v)
        go (inl k) = absurd (f (unsure.0 k))
        go (inr (inl k)) = absurd (g (unclear.0 k).1)
        go (inr (inr (inl k))) = absurd (let z : ◌≡◌ {A = ℕ} 0 1 = cc ((filled.0 k).2, e) in omega arith)
        go (inr (inr (inr k))) = k

    -- undefined exactly if some world cannot take the move
    pub step_undefined : (((step_of (sheet_of s) t m).answer ≡ Refused 24 0) ⊎ ((step_of (sheet_of s) t m).answer ≡ Refused 25 0)) ↔
        Untaken x t m
    step_undefined = (there, λ k. split (law.1 (k.0, (k.1.1, (k.1.0, k.2)))))
      where
        law : ((o ≡ Outcome.refused 24) ⊎ (o ≡ Outcome.refused 25))
            ↔ ((w : ℕ) × (In n (entries t) w × ((w < 2 ^ n) × (step_world n a w ≡ none))))
        law = tables.step_undefined n step_hp.n_most a ha (entries t) fits 128

        there : ((step_of (sheet_of s) t m).answer ≡ Refused 24 0) ⊎ ((step_of (sheet_of s) t m).answer ≡ Refused 25 0) → Untaken x t m
        there (inl e) = let k = law.0 (inl ((number 24 (inl refl)).0 e).2) in (k.0, (k.1.1.0, k.1.0), k.1.1.1)
        there (inr e) = let k = law.0 (inr ((number 25 (inr (inl refl))).0 e).2) in (k.0, (k.1.1.0, k.1.0), k.1.1.1)

        split : (o ≡ Outcome.refused 24) ⊎ (o ≡ Outcome.refused 25) → ((step_of (sheet_of s) t m).answer ≡ Refused 24 0)
            ⊎ ((step_of (sheet_of s) t m).answer ≡ Refused 25 0)
        split (inl e) = inl ((number 24 (inl refl)).1 (on, fits, e))
        split (inr e) = inr ((number 25 (inr (inl refl))).1 (on, fits, e))

    -- else it fails only where the new table fills
    pub step_else : (Untaken x t m → ⊥) → ((step_of (sheet_of s) t m).answer ≡ Accepted)
        ⊎ (((step_of (sheet_of s) t m).answer ≡ Refused 21 0) × (put_images x t m ≡ none))
    step_else f = go (tables.step_kind n step_hp.n_most a ha (entries t) fits 128)
      where
        go : (o ≡ Outcome.refused 24) ⊎
            ((o ≡ Outcome.refused 25) ⊎ ((o ≡ Outcome.refused 21) ⊎ ((u : List Literals) × (o ≡ Outcome.table u))))
            → ((step_of (sheet_of s) t m).answer ≡ Accepted) ⊎
            (((step_of (sheet_of s) t m).answer ≡ Refused 21 0) × (put_images x t m ≡ none))
        go (inl e) = absurd (f (step_undefined.0 (inl ((number 24 (inl refl)).1 (on, fits, e)))))
        go (inr (inl e)) = absurd (f (step_undefined.0 (inr ((number 25 (inr (inl refl))).1 (on, fits, e)))))
        go (inr (inr (inl e))) = inr ((number 21 (inr (inr refl))).1 (on, fits, e), (filled.0 e).2)
        go (inr (inr (inr u))) = inl ((tables.step_accepted s x says t m).1 (on, fits, u))

  pub step_24 : ((step_of (sheet_of s) t m).answer ≡ Refused 24 0) ↔ (OnSheet x m × AsDescribed x t × Unsure x t m)
  step_24 = (
    λ e. let k = (number 24 (inl refl)).0 e in (k.0, k.1, (unsure k.0 k.1).0 k.2),
    λ k. (number 24 (inl refl)).1 (k.0, k.1, (unsure k.0 k.1).1 k.2),
  )

  pub step_25 : ((step_of (sheet_of s) t m).answer ≡ Refused 25 0) ↔
      (OnSheet x m × AsDescribed x t × (Unsure x t m → ⊥) × Contradictory x t m)
  step_25 = (
    λ e. let k = (number 25 (inr (inl refl))).0 e in let c = (unclear k.0 k.1).0 k.2 in (k.0, k.1, c.0, c.1),
    λ k. (number 25 (inr (inl refl))).1 (k.0, k.1, (unclear k.0 k.1).1 (k.2, k.3)),
  )

  pub step_21 : ((step_of (sheet_of s) t m).answer ≡ Refused 21 0)
      ↔ (OnSheet x m × AsDescribed x t × (Unsure x t m → ⊥) × (Contradictory x t m → ⊥) × (put_images x t m ≡ none))
  step_21 = (
    λ e. let k = (number 21 (inr (inr refl))).0 e in let c = (filled k.0 k.1).0 k.2 in (k.0, k.1, c.0, c.1, c.2),
    λ k. (number 21 (inr (inr refl))).1 (k.0, k.1, (filled k.0 k.1).1 (k.2, k.3, k.4)),
  )

  pub step_accepted : ((step_of (sheet_of s) t m).answer ≡ Accepted)
      ↔ (OnSheet x m × AsDescribed x t × (Unsure x t m → ⊥) × (Contradictory x t m → ⊥)
      × ((u : List Literals) × (put_images x t m ≡ some u) × ((step_of (sheet_of s) t m).table ≡ table_of u)))
  step_accepted = (
    λ e.
        let k = (tables.step_accepted s x says t m).0 e in
        let r = called.stepped_to s x says t m e in
        let c = came k.0 k.1 r.0 r.1 in
        (k.0, k.1, c.0, c.1, (r.0, c.2, r.2)),
    λ k. (tables.step_accepted s x says t m).1 (k.0, k.1, comes k.0 k.1 k.2 k.3 k.4.0 k.4.1),
  )

  pub step_numbers : (k q : ℕ) → (step_of (sheet_of s) t m).answer ≡ Refused k q → (q ≡ 0)
      × ((k ≡ 7) ⊎ ((k ≡ 22) ⊎ ((k ≡ 24) ⊎ ((k ≡ 25) ⊎ (k ≡ 21)))))
  step_numbers k q e = go (ltb m count) refl (described 128 n (entries t)) refl
    where
      Numbers : Type 0
      Numbers = (q ≡ 0) × ((k ≡ 7) ⊎ ((k ≡ 22) ⊎ ((k ≡ 24) ⊎ ((k ≡ 25) ⊎ (k ≡ 21)))))

      position : (j : ℕ) → answer ≡ Refused j 0 → (q ≡ 0) × (k ≡ j)
      position j f = let i = same_fault (sym e ∙ f) in (i.1, i.0)

      known : OnSheet x m → AsDescribed x t → (o ≡ Outcome.refused 24)
          ⊎ ((o ≡ Outcome.refused 25) ⊎ ((o ≡ Outcome.refused 21) ⊎ ((v : List Literals) × (o ≡ Outcome.table v)))) → Numbers
      known on fits (inl i) = let r = position 24 ((number 24 (inl refl)).1 (on, fits, i)) in (r.0, inr (inr (inl r.1)))
      known on fits (inr (inl i)) = let r = position 25 ((number 25 (inr (inl refl))).1 (on, fits, i)) in
          (r.0, inr (inr (inr (inl r.1))))
      known on fits (inr (inr (inl i))) = let r = position 21 ((number 21 (inr (inr refl))).1 (on, fits, i)) in
          (r.0, inr (inr (inr (inr r.1))))
      known on fits (inr (inr (inr i))) = absurd
          (let z : ◌≡◌ {A = ℕ} 0 1 = cc ((tables.step_accepted s x says t m).1 (on, fits, i), e) in omega arith)

      go : (b : Bool) → ltb m count ≡ b → (c : Bool) → described 128 n (entries t) ≡ c → Numbers
      go false f c g = let r = position 7 ((tables.step_7 s x says t m).1 (ltb-false m count f)) in (r.0, inl r.1)
      go true f false g =
          let r = position 22 ((tables.step_22 s x says t m).1
          (ltb-true m count f, λ d. true≢false (sym ((tables.described_iff 128 n (entries t)).1 d) ∙ g))) in
          (r.0, inr (inl r.1))
      go true f true g =
          let on = ltb-true m count f in
          let fits = (tables.described_iff 128 n (entries t)).0 g in
          known on fits (tables.step_kind n step_hp.n_most a (ha on fits) (entries t) fits 128)

-- ---- picture
module _ (s : List ℕ) (x : Statement) (says : Says s x) (t : Table) where
  module _ (len : ℕ) where
    blank : List ℕ
    blank = replicate len 0

    long : length blank ≡ len
    unfolding blank
    long = length-replicate {A = ℕ} len 0

    pub picture_22 : ((picture_of (sheet_of s) t len).answer ≡ Refused 22 0) ↔ (AsDescribed x t → ⊥)
    picture_22 = rw long at (tables.picture_22 s x says t blank)

    pub picture_21 : ((picture_of (sheet_of s) t len).answer ≡ Refused 21 0) ↔ (AsDescribed x t × (picture (entries t) ≡ none))
    picture_21 = rw long at (tables.picture_21 s x says t blank)

    pub picture_23 : ((picture_of (sheet_of s) t len).answer ≡ Refused 23 0)
        ↔ (AsDescribed x t × ((c : List Literals) × (picture (entries t) ≡ some c) × (len < 2 + 8 * length c)))
    picture_23 = rw long at (tables.picture_23 s x says t blank)

    pub picture_numbers : (k q : ℕ) → (picture_of (sheet_of s) t len).answer ≡ Refused k q → (q ≡ 0) × ((k ≡ 22) ⊎ ((k ≡ 21) ⊎ (k ≡ 23)))
    picture_numbers k q e = go (described 128 x.problem.n (entries t)) (picture (entries t))
        (sym (ap (λ (r : PictureAnswer). r.answer) by_sheet) ∙ e)
      where
        by_sheet : picture_of (sheet_of s) t len ≡ cond (described 128 x.problem.n (entries t)) (given (picture (entries t)) len)
            (refusal 22 0)
        by_sheet = unfold picture_of in rw says

        Numbers : Type 0
        Numbers = (q ≡ 0) × ((k ≡ 22) ⊎ ((k ≡ 21) ⊎ (k ≡ 23)))

        fit : (b : Bool) (c : ℕ) → (cond b (refusal 23 0) (record { answer = Accepted; clauses = c })).answer ≡ Refused k q → Numbers
        fit true c f = unfold refusal in let i = same_fault f in (sym i.1, inr (inr (sym i.0)))
        fit false c f = absurd (let z : ◌≡◌ {A = ℕ} 0 1 = cc in omega arith)

        shown : (o : Option (List Literals)) → (given o len).answer ≡ Refused k q → Numbers
        shown none f = unfold given refusal in let i = same_fault f in (sym i.1, inr (inl (sym i.0)))
        shown (some c) f = unfold given in fit (too_long c len) (length c) f

        go : (b : Bool) (o : Option (List Literals)) → (cond b (given o len) (refusal 22 0)).answer ≡ Refused k q → Numbers
        go true o f = shown o f
        go false o f = unfold refusal in let i = same_fault f in (sym i.1, inl (sym i.0))

  pub picture_primes : AsDescribed x t → (c : List Literals) → picture (entries t) ≡ some c
      → Ascending c × (length c ≤ 256) × Exactly x.problem.n (In x.problem.n (entries t)) c
  picture_primes fits c e =
      let h = (statement_proper s x says).problem.n_most in
      let r = tables.picture_ascending h fits e in
      (r.0, r.1, tables.picture_primes h fits e)
