-- A sheet's clauses, goal and moves as numbers, one section after the other in one packed array, and what stands there.
use Rattle.std.specs.Prelude.{◌≡◌, List, [], ◌∷◌, ℕ, zero, suc, ◌+◌, ◌*◌, ◌≤◌, length, get_or, take, drop}
use Rattle.sheet.specs.inner.Widths.{sets_width, effects_width, move_width, clauses_width, moves_width, oneofs_at, goal_at, moves_at}
use Rattle.sheet.specs.declared.Literals.{Literals}
use Rattle.sheet.specs.declared.Effect.{Effect}
use Rattle.sheet.specs.Literals.{no_literal}
use Rattle.sheet.specs.Problem.{Action}

-- ---- the packed array: or-clauses, oneof-clauses, goal, moves
-- w numbers from number `at` on
abbrev pub part : ℕ → ℕ → List ℕ → List ℕ
part at w xs = take w (drop at xs)

abbrev pub ors_in : List ℕ → List ℕ
ors_in = part 0 clauses_width

abbrev pub oneofs_in : List ℕ → List ℕ
oneofs_in = part oneofs_at clauses_width

abbrev pub goal_in : List ℕ → List ℕ
goal_in = part goal_at sets_width

abbrev pub moves_in : List ℕ → List ℕ
moves_in = part moves_at moves_width

-- ---- sets and effects as masks
-- the set whose two masks stand from number i on
unfoldable pub set_from : List ℕ → ℕ → Literals
set_from xs i = record { trues = get_or xs i 0; falses = get_or xs (i + 1) 0 }

-- the first sets, so many, two masks to a set
unfoldable pub sets_at : ℕ → List ℕ → List Literals
sets_at zero xs = []
sets_at (suc size) xs = set_from xs 0 ∷ sets_at size (drop 2 xs)

-- four masks to an effect: its condition, its result
unfoldable pub masks_of : Effect → List ℕ
masks_of e = e.condition.trues ∷ e.condition.falses ∷ e.result.trues ∷ e.result.falses ∷ []

abbrev pub no_effect : Effect
no_effect = record { condition = no_literal; result = no_literal }

unfoldable pub effect_at : List ℕ → ℕ → Effect
effect_at xs i = record { condition = set_from xs (4 * i); result = set_from xs (4 * i + 2) }

-- the first of them, so many
unfoldable pub effects_at : ℕ → List ℕ → List Effect
effects_at zero xs = []
effects_at (suc size) xs = effect_at xs 0 ∷ effects_at size (drop 4 xs)

-- the action with these effects
abbrev pub action_by : Literals → ℕ → List ℕ → Action
action_by precondition size xs = record { precondition = precondition; effects = effects_at size xs }

-- ---- items of w numbers each, one after the other
-- the numbers of item i
unfoldable pub item_at : ℕ → List ℕ → ℕ → List ℕ
item_at w xs i = part (i * w) w xs

-- the first items, so many
unfoldable pub items_at : {A : Type 0} → ℕ → (List ℕ → A) → ℕ → List ℕ → List A
items_at w f zero xs = []
items_at w f (suc size) xs = f (take w xs) ∷ items_at w f size (drop w xs)

-- ---- a list of sets in 17 numbers, their count and two masks to each of eight: the alternatives of a clause, or the clauses of the goal
unfoldable pub sets_in : List ℕ → List Literals
sets_in xs = sets_at (get_or xs 0 0) (drop 1 xs)

-- 17 numbers whose count is at most eight
abbrev pub SetsFit : List ℕ → Type 0
SetsFit xs = (length xs ≡ sets_width) × (get_or xs 0 0 ≤ 8)

-- the first k clauses
abbrev pub clauses_at : ℕ → List ℕ → List (List Literals)
clauses_at = items_at sets_width sets_in

-- ---- a move in 35 numbers: the two masks of its precondition, its count, and four masks to each of eight effects
abbrev pub count_in : List ℕ → ℕ
count_in xs = get_or xs 2 0

unfoldable pub action_from : List ℕ → Action
action_from xs = action_by (set_from xs 0) (count_in xs) (take effects_width (drop 3 xs))

-- the count and the action of move m
abbrev pub count_of : List ℕ → ℕ → ℕ
count_of xs m = count_in (item_at move_width xs m)

abbrev pub action_of : List ℕ → ℕ → Action
action_of xs m = action_from (item_at move_width xs m)

-- the first k moves
abbrev pub actions_at : ℕ → List ℕ → List Action
actions_at = items_at move_width action_from
