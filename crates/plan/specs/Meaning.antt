-- What the verdicts of a plan mean for a set S of worlds (document 01, demand 2): worlds and their steps alone, no table.
use Rattle.std.specs.Prelude.{◌≡◌, not, List, ◌∷◌, ◌⊎◌, ℕ, suc, ◌^◌, ◌<◌, T, take, drop}
use Rattle.std.proofs.Math.Option.{Option, none, some}
use Rattle.sheet.specs.declared.Literals.{Literals}
use Rattle.sheet.specs.Literals.{within, state}
use Rattle.sheet.specs.Problem.{Action}
use Rattle.table.specs.Worlds.{run_world, InGoal}

-- how a world's run ends: defined; undefined; at v; in the goal; outside; where the move a lacks its precondition
abbrev pub Ends : Option ℕ → Type 0
Ends o = (v : ℕ) × (o ≡ some v)

abbrev pub Undefined : Option ℕ → Type 0
Undefined o = o ≡ none

abbrev pub At : ℕ → Option ℕ → Type 0
At v o = o ≡ some v

abbrev pub Inside : ℕ → List Literals → Option ℕ → Type 0
Inside n goal o = (v : ℕ) × (o ≡ some v) × InGoal n goal v

abbrev pub Outside : ℕ → List Literals → Option ℕ → Type 0
Outside n goal o = (v : ℕ) × (o ≡ some v) × (InGoal n goal v → ⊥)

abbrev pub Lacking : ℕ → Action → Option ℕ → Type 0
Lacking n a o = (v : ℕ) × (o ≡ some v) × T (not (within a.precondition (state n v)))

-- every world of S, and some world of S, so ends
abbrev pub Every : ℕ → (ℕ → Type 0) → (Option ℕ → Type 0) → List Action → Type 0
Every n S Q plan = (w : ℕ) → w < 2 ^ n → S w → Q (run_world n plan w)

abbrev pub Some : ℕ → (ℕ → Type 0) → (Option ℕ → Type 0) → List Action → Type 0
Some n S Q plan = (w : ℕ) × (w < 2 ^ n) × S w × Q (run_world n plan w)

-- the worlds that those of S come to
abbrev pub Comes : ℕ → (ℕ → Type 0) → List Action → ℕ → Type 0
Comes n S plan v = Some n S (At v) plan

-- stopped at place k by the number N: the moves before are defined in every world of S, the k-th is not in some; 24 if some world then
-- lacks its precondition, 25 if none does
pub record StopsAt (n : ℕ) (S : ℕ → Type 0) (plan : List Action) (k N : ℕ) : Type 0 where
  pub before : ℕ
  pub place : k ≡ suc before
  pub move : Action
  pub later : List Action
  pub next : drop before plan ≡ move ∷ later
  pub taken : Every n S Ends (take before plan)
  pub lost : Some n S Undefined (take k plan)
  pub number : ((N ≡ 24) × Some n S (Lacking n move) (take before plan)) ⊎ ((N ≡ 25) × (Some n S (Lacking n move) (take before plan) → ⊥))
