-- Touching moves (document 02, W2, "two moves touch if") and exchanges (document 01, "For demand 3").
use Rattle.std.specs.Prelude.{Bool, true, false, not, ◌&&◌, ◌||◌, List, [], ◌∷◌, ℕ, zero, suc, eqb}
use Rattle.std.specs.Int.Bits.{bit_and, bit_or}
use Rattle.sheet.specs.declared.Literals.{Literals}
use Rattle.sheet.specs.declared.Effect.{Effect}
use Rattle.sheet.specs.Literals.{no_literal, join, clash, names}
use Rattle.sheet.specs.Problem.{Action}

-- the results of all effects, whatever their conditions
abbrev pub results_by : List Effect → Literals
results_by [] = no_literal
results_by (e ∷ es) = join e.result (results_by es)

-- the propositions named in one part of each of some effects
abbrev pub named_by : (Effect → Literals) → List Effect → ℕ
named_by part [] = 0
named_by part (e ∷ es) = bit_or (names (part e)) (named_by part es)

-- the propositions in the results of some effects
abbrev pub changed_by : List Effect → ℕ
changed_by es = named_by (λ e. e.result) es

-- the propositions named in the conditions of some effects
abbrev pub read_by : List Effect → ℕ
read_by es = named_by (λ e. e.condition) es

-- the propositions in a move's results
unfoldable pub changed : Action → ℕ
changed a = changed_by a.effects

-- the propositions named in its precondition and conditions
unfoldable pub reads : Action → ℕ
reads a = bit_or (names a.precondition) (read_by a.effects)

-- the propositions named anywhere in it
unfoldable pub named : Action → ℕ
named a = bit_or (reads a) (changed a)

-- document 02, W2: a result of one has its complement among the other's results, or a proposition in a result of one is named in the
-- other's precondition or conditions
unfoldable pub touch : Action → Action → Bool
touch a b =
    clash (results_by a.effects) (results_by b.effects)
    || (not (eqb (bit_and (changed a) (reads b)) 0) || not (eqb (bit_and (changed b) (reads a)) 0))

-- document 01's wording before W2: a proposition in a result of one is named anywhere in the other
unfoldable pub touch_anywhere : Action → Action → Bool
touch_anywhere a b = not (eqb (bit_and (changed a) (named b)) 0 && eqb (bit_and (changed b) (named a)) 0)

-- two moves before the rest of a plan: as they stand if they touch, else swapped
abbrev pub swap : Bool → ℕ → ℕ → List ℕ → List ℕ
swap true a b plan = a ∷ b ∷ plan
swap false a b plan = b ∷ a ∷ plan

-- exchange k, from 1, on a plan of the numbers of the moves f, by a test of touching: swaps moves k and k + 1; the plan stays if they touch
-- or there is no move k + 1
abbrev pub exchange_by : (Action → Action → Bool) → (ℕ → Action) → ℕ → List ℕ → List ℕ
exchange_by touches f zero plan = plan
exchange_by touches f (suc k) [] = []
exchange_by touches f (suc k) (a ∷ []) = a ∷ []
exchange_by touches f (suc zero) (a ∷ b ∷ plan) = swap (touches (f a) (f b)) a b plan
exchange_by touches f (suc (suc k)) (a ∷ b ∷ plan) = a ∷ exchange_by touches f (suc k) (b ∷ plan)

-- the first exchange gets the plan, each later one what the one before left
abbrev pub exchanges_by : (Action → Action → Bool) → (ℕ → Action) → List ℕ → List ℕ → List ℕ
exchanges_by touches f [] plan = plan
exchanges_by touches f (k ∷ ks) plan = exchanges_by touches f ks (exchange_by touches f k plan)

-- by W2's test
abbrev pub exchanges : (ℕ → Action) → List ℕ → List ℕ → List ℕ
exchanges f ks plan = exchanges_by touch f ks plan
