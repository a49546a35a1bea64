-- A verdict as the call `run` gives it (`verdict_of`): read back, refused or not, full or not, and the moves taken by it. For CallRuns,
-- RunRefusals, RunPlaces, RunDemands and the demands above them. Assumes nothing.
use mathlib.Core.Path.{◌≡◌, refl, sym, ap, ◌∙◌}
use mathlib.Core.Bool.{false, true≢false, true}
use mathlib.Core.List.{List}
use Prim.Native.Nat.{ℕ, ◌-◌}
use Rattle.sheet.specs.Problem.{Problem}
use Rattle.sheet.proofs.laws.base.ListFacts.{map_take}
use Rattle.table.specs.Calls.{action_at}
use Rattle.plan.specs.declared.Verdict as case
use Rattle.plan.specs.Run.{actions_of, Verdict, reached, short, stopped, full}
use Rattle.plan.specs.Calls.{verdict_of}
use Rattle.plan.specs.Demand3.{taken_by, full_verdict, refused_verdict}
use Rattle.plan.specs.declared.Verdict.TheVariants as ran

-- ---- of a plan: never refused; full or not
pub never_refused : (v : Verdict) → refused_verdict (verdict_of v) ≡ false
unfolding refused_verdict verdict_of
never_refused reached = refl
never_refused short = refl
never_refused (stopped k N) = refl
never_refused (full k) = refl

pub not_full : (v : Verdict) → full_verdict (verdict_of v) ≡ false → (k : ℕ) → v ≡ full k → ⊥
unfolding full_verdict verdict_of
not_full v f k e = true≢false (sym (ap (λ (u : Verdict). full_verdict (verdict_of u)) e) ∙ f)

-- a verdict of a plan is no refusal
pub not_refused : (v : Verdict) (k q : ℕ) → verdict_of v ≡ ran.Refused k q → ⊥
unfolding refused_verdict
not_refused v k q e = true≢false (sym (ap refused_verdict e) ∙ never_refused v)

-- ---- verdicts read back
back : case.Verdict → Verdict
back ran.Reached = reached
back ran.Short = short
back (ran.Stopped place number) = stopped place number
back (ran.Full place) = full place
back (ran.Refused number position) = reached

back_of : (v : Verdict) → back (verdict_of v) ≡ v
unfolding back verdict_of
back_of reached = refl
back_of short = refl
back_of (stopped place number) = refl
back_of (full place) = refl

pub verdict_injective : (v u : Verdict) → verdict_of v ≡ verdict_of u → v ≡ u
verdict_injective v u e = sym (back_of v) ∙ ap back e ∙ back_of u

pub refused_is : (v : case.Verdict) → refused_verdict v ≡ true → (k : ℕ) × (q : ℕ) × (v ≡ ran.Refused k q)
unfolding refused_verdict
refused_is ran.Reached e = absurd (true≢false (sym e))
refused_is ran.Short e = absurd (true≢false (sym e))
refused_is (ran.Stopped place number) e = absurd (true≢false (sym e))
refused_is (ran.Full place) e = absurd (true≢false (sym e))
refused_is (ran.Refused number position) e = (number, position, refl)

-- ---- the moves taken, of numbers and of moves
pub taken_actions : (p : Problem) (v : case.Verdict) (q : List ℕ) → actions_of p (taken_by v q) ≡ taken_by v (actions_of p q)
unfolding actions_of taken_by
taken_actions p ran.Reached q = refl
taken_actions p ran.Short q = refl
taken_actions p (ran.Stopped place number) q = map_take (action_at p) (place - 1) q
taken_actions p (ran.Full place) q = map_take (action_at p) (place - 1) q
taken_actions p (ran.Refused number position) q = refl
