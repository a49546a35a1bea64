-- How runs end, by the lists below the calls: what a verdict says of the worlds of a set; the clauses of the returned table; two ends
-- alike.
use Rattle.std.specs.Prelude.{◌≡◌, List, ℕ, cond}
use Rattle.std.proofs.Math.Option.{Option, none, some}
use Rattle.sheet.specs.declared.Literals.{Literals}
use Rattle.sheet.specs.Problem.{Action}
use Rattle.table.specs.Picture.{picture, picture_bytes}
use Rattle.table.specs.Worlds.{and_then}
use Rattle.table.specs.Entries.{entries}
use Rattle.plan.specs.declared.RunAnswer.{RunAnswer}
use Rattle.plan.specs.Run.{Verdict, reached, short, stopped, full}
use Rattle.plan.specs.Meaning.{Ends, Inside, Outside, Every, Some, StopsAt}
use Rattle.plan.specs.Demand3.{run_refused, Class, is_stopped, class_of}

-- the clauses of the returned table's picture: none if it is full (21), or the run is refused
unfoldable pub final_clauses : RunAnswer → Option (List Literals)
final_clauses r = cond (run_refused r) none (picture (entries r.table))

-- their bytes; that the picture call writes just these for the returned table is the law `final_is`
unfoldable pub final_picture : RunAnswer → Option (List ℕ)
final_picture r = and_then (final_clauses r) (λ s. some (picture_bytes s))

-- ---- two runs end alike: their verdicts are in one class, and unless that is stopped, final pictures that are not full have equal bytes
pub record SameEnd (r₁ r₂ : RunAnswer) : Type 0 where
  pub class : Class
  pub first : class_of r₁.verdict ≡ some class
  pub second : class_of r₂.verdict ≡ some class
  pub pictures : (class ≡ is_stopped → ⊥) → (b₁ b₂ : List ℕ) → final_picture r₁ ≡ some b₁ → final_picture r₂ ≡ some b₂ → b₁ ≡ b₂

-- what a verdict says of the worlds of S; full says nothing of them
abbrev pub Means : ℕ → List Literals → (ℕ → Type 0) → List Action → Verdict → Type 0
Means n goal S plan reached = Every n S (Inside n goal) plan
Means n goal S plan short = Every n S Ends plan × Some n S (Outside n goal) plan
Means n goal S plan (stopped k N) = StopsAt n S plan k N
Means n goal S plan (full k) = Unit {0}
