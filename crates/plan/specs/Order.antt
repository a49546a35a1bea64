-- The order in which the search tries plans, and what it passes over (document 01, "Search").
use Rattle.std.specs.Prelude.{◌≡◌, List, [], ◌∷◌, ◌⊎◌, ℕ, ◌≤◌, ◌<◌, length}
use Rattle.sheet.specs.Lists.{All}

-- at the first place where they differ, p has the smaller number
abbrev pub Lower : List ℕ → List ℕ → Type 0
Lower [] q = ⊥
Lower (i ∷ p) [] = ⊥
Lower (i ∷ p) (j ∷ q) = (i < j) ⊎ ((i ≡ j) × Lower p q)

-- shorter first, then in ascending order of moves
abbrev pub Earlier : List ℕ → List ℕ → Type 0
Earlier p q = (length p < length q) ⊎ ((length p ≡ length q) × Lower p q)

-- a plan of at most `limit` of the k moves
abbrev pub PlanOf : ℕ → ℕ → List ℕ → Type 0
PlanOf k limit p = All (λ i. i < k) p × (length p ≤ limit)
