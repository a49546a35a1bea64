-- The search in the middle of a plan: what is left to find from a table, some moves already taken, and the answer so far.
use Rattle.std.specs.Prelude.{Bool, true, false, List, ◌∷◌, ◌++◌, map, ℕ, ◌+◌, ◌<◌, length, replicate}
use Rattle.sheet.specs.Limits.{most_entries}
use Rattle.sheet.specs.declared.Literals.{Literals}
use Rattle.sheet.specs.Lists.{All, pad}
use Rattle.sheet.specs.Problem.{Action}
use Rattle.sheet.specs.inner.Packed.{goal_in, moves_in, sets_in, action_of}
use Rattle.plan.specs.declared.SearchAnswer.{SearchAnswer}
use Rattle.plan.specs.declared.Kind.{Kind}
use Rattle.plan.specs.declared.Kind.TheVariants as kind
use Rattle.plan.specs.Run.{Verdict, run_from}
use Rattle.plan.specs.Search.{plans_of, plans_up_to, Answer, found, full_at, nothing, first_of}
use Rattle.plan.specs.inner.FirstPlans.{Fails}
use Rattle.plan.specs.Calls.{answered}

-- ---- the first answer from the table t, `place` moves already taken, by the numbers of the moves f
-- the verdict of a plan
abbrev pub ran_from : List Literals → (ℕ → Action) → ℕ → List Literals → List ℕ → Verdict
ran_from goal f place t plan = run_from most_entries goal place (map f plan) t

-- among the plans of so many of the moves, `left`
abbrev pub first_from : List Literals → (ℕ → Action) → ℕ → ℕ → List Literals → ℕ → Answer
first_from goal f count place t left = first_of (ran_from goal f place t) (plans_of count left)

-- among those of one move and `left` more
abbrev pub first_by : List Literals → (ℕ → Action) → ℕ → ℕ → List Literals → ℕ → ℕ → Answer
first_by goal f count place t left index = first_of (ran_from goal f place t) (map (λ p. index ∷ p) (plans_of count left))

-- no plan of fewer than `left` of the moves is reached or full
abbrev pub NoShorterPlan : List Literals → (ℕ → Action) → ℕ → ℕ → List Literals → ℕ → Type 0
NoShorterPlan goal f count place t left = (q : List ℕ) → All (λ i. i < count) q → length q < left → Fails (ran_from goal f place t q)

-- the same by the moves and the goal of a packed array
abbrev pub NoShorterFrom : List ℕ → ℕ → ℕ → List Literals → ℕ → Type 0
NoShorterFrom packed count place t left = NoShorterPlan (sets_in (goal_in packed)) (action_of (moves_in packed)) count place t left

-- ---- the answer of an inner call: its plan from byte `at` on, zeros before it for the moves taken
unfoldable pub answered_at : ℕ → Answer → SearchAnswer
answered_at at (found p) = record { kind = kind.Reached; plan = pad 8 0 (replicate at 0 ++ p); length = at + length p }
answered_at at (full_at p k) = record { kind = kind.Full k; plan = pad 8 0 (replicate at 0 ++ p); length = at + length p }
answered_at at nothing = answered nothing

-- it is an end: not nothing
abbrev pub is_end : Kind → Bool
is_end kind.Reached = true
is_end (kind.Full k) = true
is_end kind.Nothing = false
is_end (kind.Refused number position) = true

-- ---- what the inner calls answer, from the table es
abbrev pub plans_tried : List ℕ → ℕ → List Literals → ℕ → ℕ → SearchAnswer
plans_tried packed count es at left = answered_at at (first_from (sets_in (goal_in packed)) (action_of (moves_in packed)) count at es left)

abbrev pub move_tried : List ℕ → ℕ → List Literals → ℕ → ℕ → ℕ → SearchAnswer
move_tried packed count es at left index = answered_at at
    (first_by (sets_in (goal_in packed)) (action_of (moves_in packed)) count at es left index)

abbrev pub searched_by : List ℕ → ℕ → List Literals → ℕ → SearchAnswer
searched_by packed count es limit = answered
    (first_of (ran_from (sets_in (goal_in packed)) (action_of (moves_in packed)) 0 es) (plans_up_to count limit))
