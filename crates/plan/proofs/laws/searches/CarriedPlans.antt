-- Any plan of a problem on the sheet that carries it: the sheet is accepted, and its run is that of the plan. For TH6 (SearchDemands).
-- Assumes nothing.
use mathlib.Core.Path.{◌≡◌, refl, ap}
use mathlib.Core.List.{List}
use Prim.Native.Nat.{ℕ, ◌≤◌, ◌<◌}
use native.Mathlib.Omega.{arith}
use lib.ListN.{length}
use Rattle.sheet.specs.declared.Literals.{Literals}
use Rattle.sheet.specs.Lists.{All}
use Rattle.sheet.specs.Problem.{Problem, Statement}
use Rattle.sheet.specs.Faults.{Says}
use Rattle.sheet.specs.Encoding.{ProperProblem, encode}
use Rattle.sheet.proofs.Demands.{accepted_encoding}
use Rattle.table.specs.Minimal.{Outcome}
use Rattle.table.specs.Start.{start_table}
use Rattle.plan.specs.declared.RunAnswer.{RunAnswer}
use Rattle.plan.specs.declared.Verdict.TheVariants as ran
use Rattle.plan.specs.Run.{actions_of, run_from}
use Rattle.plan.specs.Calls.{verdict_of}
use Rattle.plan.specs.DemandWords.{run_with}
use Rattle.plan.proofs.laws.runs.CallRuns.{run_call}
use Rattle.plan.proofs.laws.runs.RunRefusals.{run_number}

pub carried : (p : Problem) → ProperProblem p → (q : List ℕ) → All (λ i. i < length p.actions) q → length q ≤ 64
    → Says (encode (record { problem = p; plan = q })) (record { problem = p; plan = q })
carried p hp q h l =
    let x : Statement = record { problem = p; plan = q } in
    (accepted_encoding (encode x) x).1 (record { problem = hp; plan = record { least = omega arith; most = l; each = h } }, refl)

module _ (p : Problem) (hp : ProperProblem p) (q : List ℕ) (h : All (λ i. i < length p.actions) q) (l : length q ≤ 64) where
  -- from the start table
  pub with_table : (t : List Literals) → start_table 128 p ≡ Outcome.table t
      → (run_with p q).verdict ≡ verdict_of (run_from 128 p.goal 0 (actions_of p q) t)
  with_table t e = ap (λ (r : RunAnswer). r.verdict)
      (run_call (encode (record { problem = p; plan = q })) (record { problem = p; plan = q }) (carried p hp q h l) 65 (omega arith) t e)

  -- the start is refused
  pub with_refused : (N : ℕ) → start_table 128 p ≡ Outcome.refused N → (run_with p q).verdict ≡ ran.Refused N 0
  with_refused N e = (run_number (encode (record { problem = p; plan = q })) (record { problem = p; plan = q }) (carried p hp q h l) 65
      (omega arith) N 0).1 (refl, e)
