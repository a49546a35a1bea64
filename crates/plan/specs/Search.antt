-- The search (document 01, "Search"): plans shorter first, then in ascending order of moves; the first that is reached or full.
use Rattle.std.specs.Prelude.{List, [], ◌∷◌, ◌++◌, map, ℕ, zero, suc}
use Rattle.sheet.specs.Lists.{collect}
use Rattle.plan.specs.Run.{Verdict, reached, short, stopped, full}

-- the numbers below k, ascending
abbrev pub upto : ℕ → List ℕ
upto zero = []
upto (suc k) = upto k ++ (k ∷ [])

-- the plans of `left` moves, of so many that there are, in ascending order of moves
abbrev pub plans_of : ℕ → ℕ → List (List ℕ)
plans_of count zero = [] ∷ []
plans_of count (suc left) = collect (λ index. map (λ p. index ∷ p) (plans_of count left)) (upto count)

-- the plans of at most `limit` moves, shorter first
abbrev pub plans_up_to : ℕ → ℕ → List (List ℕ)
plans_up_to count limit = collect (plans_of count) (upto (suc limit))

-- a plan that is reached; a plan that is full, with its place; none
pub data Answer : Type 0 where
  found : List ℕ → Answer
  full_at : List ℕ → ℕ → Answer
  nothing : Answer

abbrev pub or_next : Verdict → List ℕ → Answer → Answer
or_next reached p next = found p
or_next short p next = next
or_next (stopped place number) p next = next
or_next (full place) p next = full_at p place

-- the first plan that is reached or full
abbrev pub first_of : (List ℕ → Verdict) → List (List ℕ) → Answer
first_of run [] = nothing
first_of run (p ∷ ps) = let next = first_of run ps in or_next (run p) p next
