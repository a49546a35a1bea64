-- Worlds, and what actions do in them (source document 000, section 2; document 01, "Worlds"). No table stands in here.
-- A world of n propositions is a number w below 2 ^ n, bit p for proposition p; `state n w` is its complete set of literals.
use Rattle.std.specs.Prelude.{◌≡◌, Bool, true, false, ◌&&◌, List, [], ◌∷◌, ℕ, suc, T}
use Rattle.std.proofs.Math.Option.{Option, none, some}
use Rattle.sheet.specs.declared.Literals.{Literals}
use Rattle.sheet.specs.declared.Effect.{Effect}
use Rattle.sheet.specs.Literals.{no_literal, within, join, consistent, replace, state, meets}
use Rattle.sheet.specs.Lists.{Any, All}
use Rattle.sheet.specs.Problem.{Action, Problem}

abbrev pub add_result : Bool → Literals → Literals → Literals
add_result true r rest = join r rest
add_result false r rest = rest

-- e(a, s): the results of all effects whose conditions hold in s (000, equation 1); s may be a partial state
abbrev pub results : List Effect → Literals → Literals
results [] s = no_literal
results (e ∷ es) s = add_result (within e.condition s) e.result (results es s)

-- the move is defined: its precondition holds, and the results have no complementary pair
unfoldable pub takes : ℕ → Action → ℕ → Bool
takes n a w = within a.precondition (state n w) && consistent (results a.effects (state n w))

-- those results become true, and the rest keeps its value
unfoldable pub world_after : ℕ → Action → ℕ → ℕ
world_after n a w = (replace (state n w) (results a.effects (state n w))).trues

abbrev pub when : Bool → ℕ → Option ℕ
when true w = some w
when false w = none

-- Φ(a, w) (000, equation 2); none: undefined
unfoldable pub step_world : ℕ → Action → ℕ → Option ℕ
step_world n a w = when (takes n a w) (world_after n a w)

abbrev pub and_then : {A B : Type 0} → Option A → (A → Option B) → Option B
and_then none f = none
and_then (some x) f = f x

-- Φ̂(plan, w): Φ in turn, undefined from the first move that is
abbrev pub run_world : ℕ → List Action → ℕ → Option ℕ
run_world n [] w = some w
run_world n (a ∷ plan) w = and_then (step_world n a w) (λ v. run_world n plan v)

-- ---- starting worlds
abbrev pub add_one : Bool → ℕ → ℕ
add_one true k = suc k
add_one false k = k

-- how many members pass the test, each counted by its place
abbrev pub how_many : {A : Type 0} → (A → Bool) → List A → ℕ
how_many f [] = 0
how_many f (x ∷ xs) = add_one (f x) (how_many f xs)

-- a starting world meets sections 2 to 4: the known literals hold, some alternative of each or-clause does, and exactly one
-- alternative of each oneof-clause
pub record Starting (p : Problem) (w : ℕ) : Type 0 where
  pub known : T (within p.known (state p.n w))
  pub ors : All (λ alts. Any (λ a. T (within a (state p.n w))) alts) p.ors
  pub oneofs : All (λ alts. how_many (λ a. within a (state p.n w)) alts ≡ 1) p.oneofs

-- ---- the goal
-- each clause of the goal has a literal true in w
abbrev pub InGoal : ℕ → List Literals → ℕ → Type 0
InGoal n goal w = All (λ c. T (meets c (state n w))) goal
