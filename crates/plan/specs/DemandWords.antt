-- The words of the page `Demands` about runs, searches and exchanges, by the calls' own definitions and by worlds. Words about sheets and
-- tables are in sheet/specs/Faults and table/specs/CallWords.
use Rattle.std.specs.Prelude.{◌≡◌, Bool, true, false, not, List, [], ◌∷◌, ◌⊎◌, ℕ, suc, ◌+◌, ◌*◌, T, length, take, drop, replicate, Err}
use Rattle.std.proofs.Math.Option.{Option, none, some}
use Rattle.sheet.specs.declared.Literals.{Literals}
use Rattle.sheet.specs.Calls.{Answer, Accepted, Refused}
use Rattle.sheet.specs.Literals.{mem}
use Rattle.sheet.specs.Lists.{Any}
use Rattle.sheet.specs.Problem.{Action, Problem, Statement}
use Rattle.sheet.specs.Format.{sheet_of}
use Rattle.sheet.specs.Encoding.{encode}
use Rattle.table.specs.declared.Table.{Table}
use Rattle.table.specs.Worlds.{and_then, Starting}
use Rattle.table.specs.Calls.{start_of, step_of}
use Rattle.table.specs.PictureCalls.{picture_of, buffer_of}
use Rattle.plan.specs.declared.RunAnswer.{RunAnswer}
use Rattle.plan.specs.declared.SearchAnswer.{SearchAnswer}
use Rattle.plan.specs.declared.Verdict as case
use Rattle.plan.specs.declared.Verdict.TheVariants as ran
use Rattle.plan.specs.Run.{actions_of}
use Rattle.plan.specs.Calls.{run_of}
use Rattle.plan.specs.Meaning.{Inside, Every, Some, Comes}
use Rattle.plan.specs.Order.{Earlier, PlanOf}
use Rattle.plan.specs.Demand3.{taken_by}

-- ---- runs
-- every starting world, stepped alone through the moves of the plan q, takes each of them and ends in the goal
abbrev pub Solves : Problem → List ℕ → Type 0
Solves p q = Every p.n (Starting p) (Inside p.n p.goal) (actions_of p q)

-- some starting world does not
abbrev pub Spoiled : Problem → List ℕ → Type 0
Spoiled p q = Some p.n (Starting p) (λ o. Inside p.n p.goal o → ⊥) (actions_of p q)

-- the moves taken by the run of the sheet s that says x: all of them for reached and short, those before the place for stopped and full
abbrev pub taken : List ℕ → Statement → ℕ → List ℕ
taken s x rows = taken_by (run_of (sheet_of s) rows).verdict x.plan

-- what the starting worlds become, each stepped alone through the moves that the run took
abbrev pub Becomes : List ℕ → Statement → ℕ → ℕ → Type 0
Becomes s x rows = Comes x.problem.n (Starting x.problem) (actions_of x.problem (taken s x rows))

-- what comes with an accepted call
abbrev pub when_accepted : {A : Type 0} → Answer → A → Option A
when_accepted Accepted t = some t
when_accepted (Err fault) t = none

-- the table after some moves from the table t, by the call step
abbrev pub stepped : List ℕ → List ℕ → Table → Option Table
stepped s [] t = some t
stepped s (index ∷ rest) t = and_then (when_accepted (step_of (sheet_of s) t index).answer (step_of (sheet_of s) t index).table)
    (λ u. stepped s rest u)

-- the table after some moves, by the calls start and step
abbrev pub arrived : List ℕ → List ℕ → Option Table
arrived s ms = and_then (when_accepted (start_of (sheet_of s)).answer (start_of (sheet_of s)).table) (λ t. stepped s ms t)

-- the plan comes to place k - 1, and the call step by its k-th move gives the number N there
pub record StepRefused (s : List ℕ) (plan : List ℕ) (k N : ℕ) : Type 0 where
  pub before : ℕ
  pub place : k ≡ suc before
  pub move : ℕ
  pub later : List ℕ
  pub next : drop before plan ≡ move ∷ later
  pub last : Table
  pub arrives : arrived s (take before plan) ≡ some last
  pub gives : (step_of (sheet_of s) last move).answer ≡ Refused N 0

-- "picture clauses (257 if that picture is full)": of a table as described the call with 2,050 bytes gives no other number than 21
abbrev pub clauses_or : Answer → ℕ → ℕ
clauses_or Accepted clauses = clauses
clauses_or (Err fault) clauses = 257

-- "A run's final picture is what the picture call writes for the table that the run returns: the two bytes of count and the clauses,
-- nothing after them": none if that call gives 21, or the run is refused (on an accepted sheet its table is then empty, and the call gives
-- 22)
unfoldable pub final_of : List ℕ → ℕ → Option (List ℕ)
final_of s rows =
    let t = (run_of (sheet_of s) rows).table in
    let r = picture_of (sheet_of s) t 2050 in
    when_accepted r.answer (take (2 + 8 * r.clauses) (buffer_of (sheet_of s) t (replicate 2050 0)))

-- ---- searches
-- the call run on the sheet that carries the plan q
abbrev pub run_with : Problem → List ℕ → RunAnswer
run_with p q = run_of (sheet_of (encode (record { problem = p; plan = q }))) 65

-- short or stopped
abbrev pub Misses : case.Verdict → Type 0
Misses ran.Reached = ⊥
Misses ran.Short = Unit {0}
Misses (ran.Stopped place number) = Unit {0}
Misses (ran.Full place) = ⊥
Misses (ran.Refused number position) = ⊥

-- q is within the limit, its run gives v, and every earlier plan within the limit is short or stopped
pub record FirstRun (p : Problem) (limit : ℕ) (q : List ℕ) (v : case.Verdict) : Type 0 where
  pub plan : PlanOf (length p.actions) limit q
  pub gives : (run_with p q).verdict ≡ v
  pub earlier : (r : List ℕ) → PlanOf (length p.actions) limit r → Earlier r q → Misses (run_with p r).verdict

-- the plan in the answer: as many of its eight bytes as its length says
abbrev pub plan_found : SearchAnswer → List ℕ
plan_found r = take r.length r.plan

-- ---- moves that touch (document 02, W2)
-- a result of the move is the literal of sign s at the proposition q
abbrev pub ResultOf : Action → Bool → ℕ → Type 0
ResultOf a s q = Any (λ e. T (mem e.result s q)) a.effects

-- q is named in some literals
abbrev pub Names : Literals → ℕ → Type 0
Names d q = T (mem d true q) ⊎ T (mem d false q)

-- q is in a result of the move
abbrev pub InResult : Action → ℕ → Type 0
InResult a q = Any (λ e. Names e.result q) a.effects

-- q is named in the move's precondition or conditions
abbrev pub ReadIn : Action → ℕ → Type 0
ReadIn a q = Names a.precondition q ⊎ Any (λ e. Names e.condition q) a.effects

-- q is named anywhere in the move
abbrev pub NamedIn : Action → ℕ → Type 0
NamedIn a q = ReadIn a q ⊎ InResult a q

-- at q a result of one has its complement among the other's results, or q is in a result of one and read in the other
abbrev pub TouchesAt : Action → Action → ℕ → Type 0
TouchesAt a b q = ((s : Bool) × ResultOf a s q × ResultOf b (not s) q) ⊎ ((InResult a q × ReadIn b q) ⊎ (InResult b q × ReadIn a q))

-- the move puts q out: that q is false is a result of it, that q is true is none
abbrev pub PutsOut : Action → ℕ → Type 0
PutsOut a q = ResultOf a false q × (ResultOf a true q → ⊥)

-- ---- an example
-- two moves that both put the lamp out, proposition 2; one makes proposition 0 true, the other proposition 1; the lamp is lit at first, and
-- all three are the goal; the plan is a, b
abbrev pub lamp_sheet : ℕ → ℕ → List ℕ
lamp_sheet a b =
    3 ∷ 1 ∷ 4 ∷ 0 ∷ 0 ∷ 2 ∷ 0 ∷ 1 ∷ 0 ∷ 2 ∷ 0 ∷ 5 ∷ 0 ∷ 1 ∷ 0 ∷ 2 ∷ 2 ∷ 5 ∷ 3 ∷ 1 ∷ 0 ∷ 1 ∷ 2 ∷ 1 ∷ 5 ∷ 2 ∷ a ∷ b ∷ []
