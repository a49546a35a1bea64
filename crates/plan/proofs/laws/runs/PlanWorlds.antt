-- One plan in one world: where it ends, undefined from some move on, one move more; and what holds of every move of a plan. For
-- VerdictWorlds, VerdictClasses, StartRuns and StartSearches. Assumes nothing.
use mathlib.Core.Path.{◌≡◌, refl, ap, subst, ◌∙◌}
use mathlib.Core.List.{List, [], ◌∷◌, head-eq_of_cons-eq}
use mathlib.Core.Option.{Option, none, some, some-injective, some-ne-none, none-ne-some}
use Prim.Native.Nat.{ℕ, zero, suc, ◌+◌, ◌≤◌, ◌^◌, ◌<◌}
use native.Mathlib.Nat.{le_of_suc-le-suc, not-suc-le-zero}
use native.Mathlib.Omega.{arith}
use lib.ListN.{length, take, drop}
use lib.Seq.{take_all}
use Rattle.sheet.specs.Lists.{All}
use Rattle.sheet.specs.Problem.{Action}
use Rattle.sheet.specs.Encoding.{ProperAction}
use Rattle.table.specs.Worlds.{step_world, and_then, run_world}
use Rattle.table.proofs.laws.steps.StepWorlds.{step_below}

-- ---- worlds step to worlds
pub run_below : (n : ℕ) (plan : List Action) → All (ProperAction n) plan → (w v : ℕ) → w < 2 ^ n → run_world n plan w ≡ some v → v < 2 ^ n
run_below n [] h w v l e = rw (← some-injective w v e) l
run_below n (a ∷ plan) h w v l e = go (step_world n a w) refl e (λ u. run_below n plan h.1 u v)
  where
    go : (o : Option ℕ) → step_world n a w ≡ o → and_then o (run_world n plan) ≡ some v
        → ((u : ℕ) → u < 2 ^ n → run_world n plan u ≡ some v → v < 2 ^ n) → v < 2 ^ n
    go none k q ih = absurd (none-ne-some v q)
    go (some u) k q ih = ih u (step_below n a h.0 w u l k) q

-- a longer part of the plan is undefined where a shorter one is
pub take_none : (n i j : ℕ) (plan : List Action) (w : ℕ) → i ≤ j → run_world n (take i plan) w ≡ none → run_world n (take j plan) w ≡ none
take_none n zero j plan w h e = absurd (some-ne-none w e)
take_none n (suc i) zero plan w h e = absurd (not-suc-le-zero h)
take_none n (suc i) (suc j) [] w h e = e
take_none n (suc i) (suc j) (a ∷ plan) w h e = go (step_world n a w) e (λ v. take_none n i j plan v (le_of_suc-le-suc h))
  where
    go : (o : Option ℕ) → and_then o (run_world n (take i plan)) ≡ none
        → ((v : ℕ) → run_world n (take i plan) v ≡ none → run_world n (take j plan) v ≡ none)
        → and_then o (run_world n (take j plan)) ≡ none
    go none e k = refl
    go (some v) e k = k v e

pub prefix_none : (n j : ℕ) (plan : List Action) (w : ℕ) → run_world n (take j plan) w ≡ none → run_world n plan w ≡ none
prefix_none n j plan w e =
    subst (λ (q : List Action). run_world n q w ≡ none) (take_all (j + length plan) plan (omega arith))
    (take_none n j (j + length plan) plan w (omega arith) e)

-- one move more
alone : (o : Option ℕ) → and_then o (λ v. some v) ≡ o
alone none = refl
alone (some v) = refl

pub take_next : (n : ℕ) (a : Action) (later : List Action) (j : ℕ) (plan : List Action) (w v : ℕ) → drop j plan ≡ a ∷ later
    → run_world n (take j plan) w ≡ some v
    → run_world n (take (suc j) plan) w ≡ step_world n a v
take_next n a later zero [] w v e h = let z : ◌≡◌ {A = ℕ} 0 1 = cc in absurd (omega arith)
take_next n a later zero (b ∷ plan) w v e h =
    alone (step_world n b w) ∙ ap (step_world n b) (some-injective w v h) ∙ ap (λ (c : Action). step_world n c v) (head-eq_of_cons-eq e)
take_next n a later (suc j) [] w v e h = let z : ◌≡◌ {A = ℕ} 0 1 = cc in absurd (omega arith)
take_next n a later (suc j) (b ∷ plan) w v e h = go (step_world n b w) h (λ u. take_next n a later j plan u v e)
  where
    go : (o : Option ℕ) → and_then o (run_world n (take j plan)) ≡ some v
        → ((u : ℕ) → run_world n (take j plan) u ≡ some v → run_world n (take (suc j) plan) u ≡ step_world n a v)
        → and_then o (run_world n (take (suc j) plan)) ≡ step_world n a v
    go none q k = absurd (none-ne-some v q)
    go (some u) q k = k u q

pub all_next : (P : Action → Type 0) (j : ℕ) (plan : List Action) (a : Action) (later : List Action) → drop j plan ≡ a ∷ later → All P plan
    → P a
all_next P zero [] a later e h = let z : ◌≡◌ {A = ℕ} 0 1 = cc in absurd (omega arith)
all_next P zero (b ∷ plan) a later e h = subst P (head-eq_of_cons-eq e) h.0
all_next P (suc j) [] a later e h = let z : ◌≡◌ {A = ℕ} 0 1 = cc in absurd (omega arith)
all_next P (suc j) (b ∷ plan) a later e h = all_next P j plan a later e h.1

pub all_take : {A : Type 0} (P : A → Type 0) (j : ℕ) (plan : List A) → All P plan → All P (take j plan)
all_take P zero plan h = tt
all_take P (suc j) [] h = h
all_take P (suc j) (a ∷ plan) h = (h.0, all_take P j plan h.1)
