-- The table T_k of a run by worlds (`Arrives`): every world takes the moves to it, and its worlds are those that they come to. For
-- VerdictWorlds, StartRuns and ExactRuns. Assumes nothing.
use mathlib.Core.Path.{◌≡◌, refl, sym, ap, subst, ◌∙◌}
use mathlib.Core.List.{List, [], ◌∷◌}
use mathlib.Core.Logic.{◌↔◌}
use mathlib.Core.Option.{Option, some, some-injective, none-ne-some}
use Prim.Native.Nat.{ℕ, zero, suc, ◌^◌, ◌≤◌, ◌<◌}
use lib.ListN.{take}
use Rattle.sheet.specs.declared.Literals.{Literals}
use Rattle.sheet.specs.Lists.{All}
use Rattle.sheet.specs.Problem.{Action}
use Rattle.sheet.specs.Encoding.{ProperAction}
use Rattle.table.specs.Worlds.{world_after, step_world, and_then, run_world}
use Rattle.table.specs.Minimal.{In, Described, table}
use Rattle.table.specs.Step.{step_table}
use Rattle.table.proofs.laws.steps.StepWorlds as stepping
use Rattle.table.proofs.laws.steps.StepWorlds.{step_taken, step_below}
use Rattle.plan.specs.inner.TableRuns.{table_at}
use Rattle.plan.specs.Meaning.{Ends, At, Every, Some, Comes}
use Rattle.plan.proofs.laws.runs.RunTables.{at_later}

-- ---- sets of worlds
module _ (n : ℕ) (S R : ℕ → Type 0) (same : (w : ℕ) → w < 2 ^ n → S w ↔ R w) where
  every_same : (Q : Option ℕ → Type 0) (plan : List Action) → Every n S Q plan → Every n R Q plan
  every_same Q plan h w l r = h w l ((same w l).1 r)

  some_same : (Q : Option ℕ → Type 0) (plan : List Action) → Some n S Q plan → Some n R Q plan
  some_same Q plan x = (x.0, x.1, (same x.0 x.1).0 x.2, x.3)

-- ---- T_k by worlds: as described, every world takes the moves to it, and its worlds are those that they come to
pub record Arrives (cap n : ℕ) (S : ℕ → Type 0) (plan : List Action) (k : ℕ) (u : List Literals) : Type 0 where
  pub described : Described cap n u
  pub defined : Every n S Ends (take k plan)
  pub worlds : (v : ℕ) → v < 2 ^ n → In n u v ↔ Comes n S (take k plan) v

module _ (cap n : ℕ) (hn : n ≤ 32) where
  arrives_in : (plan : List Action) → All (ProperAction n) plan → (t : List Literals) → Described cap n t → (k : ℕ) (u : List Literals)
      → table_at cap k plan t ≡ some u
      → Arrives cap n (In n t) plan k u
  arrives_in plan hp t ht zero u h =
      let e = some-injective t u h in
      record {
        described = subst (Described cap n) e ht;
        defined = λ w l i. (w, refl);
        worlds = λ v l. (
          λ i. (v, l, subst (λ (x : List Literals). In n x v) (sym e) i, refl),
          λ x. subst (λ (y : List Literals). In n y v) e (subst (In n t) (some-injective x.0 v x.3) x.2),
        );
      }
  arrives_in [] hp t ht (suc k) u h = absurd (none-ne-some u h)
  arrives_in (a ∷ plan) hp t ht (suc k) u h =
      let x = at_later cap a plan t u k h in
      let hu = stepping.step_described n hn a hp.0 t ht.proper cap x.0 x.1 ht.least in
      onto x.0 x.1 (arrives_in plan hp.1 x.0 hu k u x.2)
    where
      onto : (m : List Literals) → step_table cap a t ≡ table m → Arrives cap n (In n m) plan k u
          → Arrives cap n (In n t) (a ∷ plan) (suc k) u
      onto m e r = record { described = r.described; defined = ends; worlds = λ v l. (fore v l, back v l) }
        where
          steps : (w : ℕ) → w < 2 ^ n → In n t w → step_world n a w ≡ some (world_after n a w)
          steps = step_taken n hn a hp.0 t ht.proper cap m e

          low : (w : ℕ) → w < 2 ^ n → In n t w → world_after n a w < 2 ^ n
          low w l i = step_below n a hp.0 w (world_after n a w) l (steps w l i)

          goes : (w : ℕ) (l : w < 2 ^ n) (i : In n t w) → In n m (world_after n a w)
          goes w l i = (stepping.step_worlds n hn a hp.0 t ht.proper cap m e (world_after n a w) (low w l i)).1
              (w, (i, (l, steps w l i)))

          run_is : (w : ℕ) → w < 2 ^ n → In n t w → run_world n (a ∷ take k plan) w ≡ run_world n (take k plan) (world_after n a w)
          run_is w l i = ap (λ (o : Option ℕ). and_then o (run_world n (take k plan))) (steps w l i)

          ends : Every n (In n t) Ends (a ∷ take k plan)
          ends w l i = let y = r.defined (world_after n a w) (low w l i) (goes w l i) in (y.0, run_is w l i ∙ y.1)

          fore : (v : ℕ) → v < 2 ^ n → In n u v → Comes n (In n t) (a ∷ take k plan) v
          fore v l i =
              let y = (r.worlds v l).0 i in
              let z = (stepping.step_worlds n hn a hp.0 t ht.proper cap m e y.0 y.1).0 y.2 in
              (z.0, z.1.1.0, z.1.0, ap (λ (o : Option ℕ). and_then o (run_world n (take k plan))) z.1.1.1 ∙ y.3)

          back : (v : ℕ) → v < 2 ^ n → Comes n (In n t) (a ∷ take k plan) v → In n u v
          back v l y = (r.worlds v l).1
              (world_after n a y.0, low y.0 y.1 y.2, goes y.0 y.1 y.2, sym (run_is y.0 y.1 y.2) ∙ y.3)

  -- ---- from a table t that stands for the worlds of S
  module _ (plan : List Action) (hp : All (ProperAction n) plan) (t : List Literals) (ht : Described cap n t) (S : ℕ → Type 0)
      (same : (w : ℕ) → w < 2 ^ n → In n t w ↔ S w) where
    pub arrives : (k : ℕ) (u : List Literals) → table_at cap k plan t ≡ some u → Arrives cap n S plan k u
    arrives k u h =
        let r = arrives_in plan hp t ht k u h in
        record {
          described = r.described;
          defined = every_same n (In n t) S same Ends (take k plan) r.defined;
          worlds = λ v l. (
            λ i. some_same n (In n t) S same (At v) (take k plan) ((r.worlds v l).0 i),
            λ x. (r.worlds v l).1 (some_same n S (In n t) (λ w q. ((same w q).1, (same w q).0)) (At v) (take k plan) x),
          );
        }
