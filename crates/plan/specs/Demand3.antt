-- Demand 3 (document 01, "For demand 3"): full runs, the classes of verdicts, the moves taken, the final picture of a run, sheets alike in
-- sections 1 to 6.
use Rattle.std.specs.Prelude.{◌≡◌, Bool, true, false, List, [], ℕ, ◌-◌, eqb, take}
use Rattle.std.proofs.Math.Option.{Option, none, some}
use Rattle.sheet.specs.Problem.{Statement}
use Rattle.sheet.specs.Format.{accepted, sheet_of}
use Rattle.plan.specs.declared.RunAnswer.{RunAnswer}
use Rattle.plan.specs.declared.Verdict as case
use Rattle.plan.specs.declared.Verdict.TheVariants.{Reached, Short, Stopped, Full, Refused}

-- ---- of a verdict
-- full at a place, or refused because the start is full (21)
unfoldable pub full_verdict : case.Verdict → Bool
full_verdict Reached = false
full_verdict Short = false
full_verdict (Stopped place number) = false
full_verdict (Full place) = true
full_verdict (Refused number position) = eqb number 21

unfoldable pub refused_verdict : case.Verdict → Bool
refused_verdict Reached = false
refused_verdict Short = false
refused_verdict (Stopped place number) = false
refused_verdict (Full place) = false
refused_verdict (Refused number position) = true

-- the three classes; full and refused are in none
pub data Class : Type 0 where
  is_reached is_short is_stopped : Class

unfoldable pub class_of : case.Verdict → Option Class
class_of Reached = some is_reached
class_of Short = some is_short
class_of (Stopped place number) = some is_stopped
class_of (Full place) = none
class_of (Refused number position) = none

-- the moves taken: all of them for reached and short, those before the place for stopped and full
unfoldable pub taken_by : {A : Type 0} → case.Verdict → List A → List A
taken_by Reached plan = plan
taken_by Short plan = plan
taken_by (Stopped place number) plan = take (place - 1) plan
taken_by (Full place) plan = take (place - 1) plan
taken_by (Refused number position) plan = []

-- ---- of a run
unfoldable pub run_full : RunAnswer → Bool
run_full r = full_verdict r.verdict

unfoldable pub run_refused : RunAnswer → Bool
run_refused r = refused_verdict r.verdict

-- ---- two plans on one sheet: two accepted sheets alike in sections 1 to 6
pub record SamePlanSheet (s₁ s₂ : List ℕ) (x y : Statement) : Type 0 where
  pub first : sheet_of s₁ ≡ accepted x
  pub second : sheet_of s₂ ≡ accepted y
  pub alike : x.problem ≡ y.problem
