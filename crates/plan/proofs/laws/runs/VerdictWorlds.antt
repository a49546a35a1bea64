-- The verdict of a run from a table means what the table's worlds do (`run_means`). For StartRuns. Assumes nothing.
use mathlib.Core.Path.{◌≡◌, refl, sym, ap, subst, ◌∙◌}
use mathlib.Core.Bool.{Bool, true, false}
use mathlib.Core.List.{List}
use mathlib.Core.Logic.{◌⊎◌, inl, inr, ◌↔◌}
use mathlib.Core.Option.{some}
use Prim.Native.Nat.{ℕ, suc, ◌+◌, ◌^◌, ◌≤◌, ◌<◌}
use native.Mathlib.Omega.{arith}
use lib.Dec.{eqb}
use lib.ListN.{length, take}
use lib.Seq.{take-length}
use Rattle.sheet.specs.declared.Literals.{Literals}
use Rattle.sheet.specs.Literals.{Proper}
use Rattle.sheet.specs.Lists.{All, all_of}
use Rattle.sheet.specs.Problem.{Action}
use Rattle.sheet.specs.Encoding.{ProperAction}
use Rattle.sheet.proofs.laws.base.Bools.{true_T, false_T}
use Rattle.table.specs.Minimal.{In, Described, refused}
use Rattle.table.specs.Step.{step_table}
use Rattle.table.proofs.laws.steps.StepWorlds as stepping
use Rattle.table.proofs.laws.steps.StepWorlds.{code_is, table_refused}
use Rattle.plan.specs.Run.{in_goal, ended_in, halted_by, run_from}
use Rattle.plan.specs.inner.TableRuns.{table_at, Refuses}
use Rattle.plan.specs.Meaning.{Ends, Undefined, Lacking, Every, Some, Comes, StopsAt}
use Rattle.plan.specs.inner.RunEnds.{Means}
use Rattle.plan.proofs.laws.runs.GoalWorlds.{goal_each, goal_lacks}
use Rattle.plan.proofs.laws.runs.RunTables.{Story, story, run_ended, run_refused_lem}
use Rattle.plan.proofs.laws.runs.PlanWorlds.{run_below, take_next, all_next, all_take}
use Rattle.plan.proofs.laws.runs.ArrivedWorlds.{Arrives, arrives}

-- from a table t that stands for the worlds of S
module _ (cap n : ℕ) (hn : n ≤ 32) (plan : List Action) (hp : All (ProperAction n) plan) (t : List Literals) (ht : Described cap n t)
    (S : ℕ → Type 0) (same : (w : ℕ) → w < 2 ^ n → In n t w ↔ S w) (goal : List Literals) (hg : All (Proper n) goal) where
  ended_means : (u : List Literals) → table_at cap (length plan) plan t ≡ some u → (b : Bool) → all_of (in_goal goal) u ≡ b
      → Means n goal S plan (ended_in b)
  ended_means u h = go
    where
      r : Arrives cap n S plan (length plan) u
      r = arrives cap n hn plan hp t ht S same (length plan) u h

      whole : Every n S Ends plan × ((v : ℕ) → v < 2 ^ n → In n u v ↔ Comes n S plan v)
      whole = subst (λ (p : List Action). Every n S Ends p × ((v : ℕ) → v < 2 ^ n → In n u v ↔ Comes n S p v)) (take-length plan)
          (r.defined, r.worlds)

      go : (b : Bool) → all_of (in_goal goal) u ≡ b → Means n goal S plan (ended_in b)
      go true e = λ w l s.
          let y = whole.0 w l s in (
            y.0,
            y.1,
            goal_each n goal u (true_T (all_of (in_goal goal) u) e) y.0
                ((whole.1 y.0 (run_below n plan hp w y.0 l y.1)).1 (w, l, s, y.1)),
          )
      go false e =
          let x = goal_lacks n goal u hg r.described.proper (false_T (all_of (in_goal goal) u) e) in
          let y = (whole.1 x.0 x.1.1.0).0 x.1.0 in
          (whole.0, (y.0, y.1, y.2, (x.0, y.3, x.1.1.1)))

  refused_means : (k N : ℕ) → Refuses cap plan t k N → Means n goal S plan (halted_by (eqb N 21) (suc k) N)
  refused_means k N r = go (stepping.step_kind n hn r.move ha r.last hl cap)
    where
      arr : Arrives cap n S plan k r.last
      arr = arrives cap n hn plan hp t ht S same k r.last r.arrives

      ha : ProperAction n r.move
      ha = all_next (ProperAction n) k plan r.move r.later r.next hp

      hl : All (Proper n) r.last
      hl = arr.described.proper

      -- where 24 or 25 comes, some world cannot take the move
      lost : (step_table cap r.move r.last ≡ refused 24) ⊎ (step_table cap r.move r.last ≡ refused 25)
          → Some n S Undefined (take (suc k) plan)
      lost f =
          let x = (stepping.step_undefined n hn r.move ha r.last hl cap).0 f in
          let y = (arr.worlds x.0 x.1.1.0).0 x.1.0 in
          (y.0, y.1, y.2, take_next n r.move r.later k plan y.0 x.0 r.next y.3 ∙ x.1.1.1)

      -- 24 exactly if some world lacks the precondition
      unsure : step_table cap r.move r.last ≡ refused 24 → Some n S (Lacking n r.move) (take k plan)
      unsure f =
          let x = (stepping.step_24 n hn r.move ha r.last hl cap).0 f in
          let y = (arr.worlds x.0 x.1.1.0).0 x.1.0 in
          (y.0, y.1, y.2, (x.0, y.3, x.1.1.1))

      sure : step_table cap r.move r.last ≡ refused 25 → Some n S (Lacking n r.move) (take k plan) → ⊥
      sure f x =
          let v = x.3.0 in
          let l = run_below n (take k plan) (all_take (ProperAction n) k plan hp) x.0 v x.1 x.3.1 in
          let e = (stepping.step_24 n hn r.move ha r.last hl cap).1
          (v, ((arr.worlds v l).1 (x.0, x.1, x.2, x.3.1), (l, x.3.2))) in
          omega (arith, code_is (sym f ∙ e))

      stops : (c : ℕ) → Some n S Undefined (take (suc k) plan)
          → ((c ≡ 24) × Some n S (Lacking n r.move) (take k plan)) ⊎ ((c ≡ 25) × (Some n S (Lacking n r.move) (take k plan) → ⊥))
          → StopsAt n S plan (suc k) c
      stops c x y =
          record {
            before = k;
            place = refl;
            move = r.move;
            later = r.later;
            next = r.next;
            taken = arr.defined;
            lost = x;
            number = y;
          }

      by : (c : ℕ) → step_table cap r.move r.last ≡ refused c → Means n goal S plan (halted_by (eqb c 21) (suc k) c)
          → Means n goal S plan (halted_by (eqb N 21) (suc k) N)
      by c f m = subst (λ (x : ℕ). Means n goal S plan (halted_by (eqb x 21) (suc k) x)) (code_is (sym f ∙ r.gives)) m

      go : stepping.Kind (step_table cap r.move r.last) → Means n goal S plan (halted_by (eqb N 21) (suc k) N)
      go (inl f) = by 24 f (stops 24 (lost (inl f)) (inl (refl, unsure f)))
      go (inr (inl f)) = by 25 f (stops 25 (lost (inr f)) (inr (refl, sure f)))
      go (inr (inr (inl f))) = by 21 f tt
      go (inr (inr (inr x))) = table_refused x.0 N (sym x.1 ∙ r.gives)

  -- the verdict says what it means
  pub run_means : Means n goal S plan (run_from cap goal 0 plan t)
  run_means = go (story cap plan t)
    where
      go : Story cap plan t → Means n goal S plan (run_from cap goal 0 plan t)
      go (inl x) = subst (Means n goal S plan) (sym (run_ended cap goal 0 plan t x.0 x.1))
          (ended_means x.0 x.1 (all_of (in_goal goal) x.0) refl)
      go (inr x) =
          let q : 0 + x.0 ≡ x.0 = omega arith in
          subst (Means n goal S plan)
          (sym (run_refused_lem cap goal 0 plan t x.0 x.1 x.2 ∙ ap (λ (i : ℕ). halted_by (eqb x.1 21) (suc i) x.1) q))
          (refused_means x.0 x.1 x.2)
