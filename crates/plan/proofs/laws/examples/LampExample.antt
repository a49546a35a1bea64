-- What demand 3 asks for is met by two plans that differ: two moves that both put the lamp out, in either order. For `demand_3` in
-- proofs/Demands. Assumes nothing.
use mathlib.Core.Path.{◌≡◌, refl, sym, ap, ap₂, ◌∙◌}
use mathlib.Core.Bool.{true, false}
use mathlib.Core.List.{List, [], ◌∷◌}
use mathlib.Core.Option.{Option, some}
use Prim.Native.Nat.{ℕ}
use native.Mathlib.Omega.{arith}
use Rattle.sheet.specs.declared.Literals.{Literals}
use Rattle.sheet.specs.Literals.{has, no_literal, mem, within, clash, consistent, join, flip, replace, single, sign, literal, contains}
use Rattle.sheet.specs.Literals.{state, meets, names, members_from, members}
use Rattle.sheet.specs.Lists.{pad}
use Rattle.sheet.specs.Problem.{Action, Problem, Statement, problem_of}
use Rattle.sheet.specs.Form.{◌>>=◌, judged, times, byte_at, read}
use Rattle.sheet.specs.Format.{count_fault, literal_fault, number_fault, list_of, ascending, set_of, literals, clause, effect, action, clauses}
use Rattle.sheet.specs.Format.{actions, goal, plan, facts, sheet, at_end, accepted, sheet_of}
use Rattle.sheet.specs.Faults.{Says}
use Rattle.table.specs.Worlds.{and_then}
use Rattle.table.specs.Minimal.{put, table}
use Rattle.table.specs.Start.{start_clauses, grow, start_table}
use Rattle.table.specs.Step.{missing, split, image, step_table}
use Rattle.table.specs.Picture.{units, unions, fold, primes, precedes, insert, sort_onto, sort, picture, picture_bytes}
use Rattle.table.specs.Entries.{pairs, entries_of, entries, table_of}
use Rattle.table.specs.Calls.{action_at}
use Rattle.table.specs.CallWords.{Starts}
use Rattle.table.proofs.laws.examples.BenchExamples.{set, when, always}
use Rattle.plan.specs.declared.RunAnswer.{RunAnswer}
use Rattle.plan.specs.declared.Verdict.TheVariants as ran
use Rattle.plan.specs.Run.{actions_of, in_goal, Verdict, reached, run_from, last_table}
use Rattle.plan.specs.Calls.{verdict_of, run_of}
use Rattle.plan.specs.Exchange.{changed, reads, named, touch, touch_anywhere, exchanges}
use Rattle.plan.specs.Demand3.{refused_verdict, run_refused}
use Rattle.plan.specs.inner.RunEnds.{final_clauses, final_picture}
use Rattle.plan.specs.DemandWords.{final_of, lamp_sheet}
use Rattle.plan.specs.Demands.{Met}
use Rattle.plan.proofs.laws.runs.CallRuns.{run_call}
use Rattle.plan.proofs.laws.exchanges.ExchangeDemands.{final_is}

-- the moves, neither with a precondition or a condition: the lamp out and f, the lamp out and g
abbrev out_f : Action
out_f = always (when (set 0 0) (set 1 4) ∷ [])

abbrev out_g : Action
out_g = always (when (set 0 0) (set 2 4) ∷ [])

-- what the sheet says
abbrev two : Problem
two = record {
  n = 3;
  known = set 4 0;
  ors = [];
  oneofs = [];
  actions = out_f ∷ out_g ∷ [];
  goal = set 1 0 ∷ set 2 0 ∷ set 0 4 ∷ [];
}

abbrev with_plan : ℕ → ℕ → Statement
with_plan a b = record { problem = two; plan = a ∷ b ∷ [] }

says_01 : sheet_of (lamp_sheet 0 1) ≡ accepted (with_plan 0 1)
unfolding sheet_of at_end read byte_at sheet facts plan goal actions clauses action effect clause literals set_of ascending list_of
    number_fault
    literal_fault count_fault times judged ◌>>=◌ problem_of no_literal join literal single sign
says_01 = refl

says_10 : sheet_of (lamp_sheet 1 0) ≡ accepted (with_plan 1 0)
unfolding sheet_of at_end read byte_at sheet facts plan goal actions clauses action effect clause literals set_of ascending list_of
    number_fault
    literal_fault count_fault times judged ◌>>=◌ problem_of no_literal join literal single sign
says_10 = refl

starts : start_table 128 two ≡ table (set 4 0 ∷ [])
unfolding start_table start_clauses grow
starts = refl

came_01 : (run_from 128 two.goal 0 (actions_of two (0 ∷ 1 ∷ [])) (set 4 0 ∷ []) ≡ reached)
    × (last_table 128 (actions_of two (0 ∷ 1 ∷ [])) (set 4 0 ∷ []) ≡ set 3 4 ∷ [])
unfolding actions_of action_at step_table split missing image put within join clash consistent flip literal single sign replace no_literal
    members members_from contains mem has in_goal meets
came_01 = (refl, refl)

came_10 : (run_from 128 two.goal 0 (actions_of two (1 ∷ 0 ∷ [])) (set 4 0 ∷ []) ≡ reached)
    × (last_table 128 (actions_of two (1 ∷ 0 ∷ [])) (set 4 0 ∷ []) ≡ set 3 4 ∷ [])
unfolding actions_of action_at step_table split missing image put within join clash consistent flip literal single sign replace no_literal
    members members_from contains mem has in_goal meets
came_10 = (refl, refl)

given_01 : run_of (sheet_of (lamp_sheet 0 1)) 65 ≡ record { verdict = verdict_of reached; table = table_of (set 3 4 ∷ []) }
given_01 =
    run_call (lamp_sheet 0 1) (with_plan 0 1) says_01 65 (omega arith) (set 4 0 ∷ []) starts
    ∙ ap₂ {C = RunAnswer} (λ (v : Verdict) (u : List Literals). record { verdict = verdict_of v; table = table_of u }) came_01.0
    came_01.1

given_10 : run_of (sheet_of (lamp_sheet 1 0)) 65 ≡ record { verdict = verdict_of reached; table = table_of (set 3 4 ∷ []) }
given_10 =
    run_call (lamp_sheet 1 0) (with_plan 1 0) says_10 65 (omega arith) (set 4 0 ∷ []) starts
    ∙ ap₂ {C = RunAnswer} (λ (v : Verdict) (u : List Literals). record { verdict = verdict_of v; table = table_of u }) came_10.0
    came_10.1

-- the picture of the last table: the lamp out, f, g
abbrev drawn : List Literals
drawn = set 0 4 ∷ set 1 0 ∷ set 2 0 ∷ []

shown : picture (entries (table_of (set 3 4 ∷ []))) ≡ some drawn
unfolding entries table_of entries_of pairs pad has mem within consistent join single sign literal contains members_from members put units
    unions fold primes precedes insert sort_onto sort picture
shown = refl

-- both are reached
reached_by : (r : RunAnswer) → r ≡ record { verdict = verdict_of reached; table = table_of (set 3 4 ∷ []) } → r.verdict ≡ ran.Reached
unfolding verdict_of
reached_by r e = ap (λ (q : RunAnswer). q.verdict) e

-- the final picture of a run with this table
final : (r : RunAnswer) → r ≡ record { verdict = verdict_of reached; table = table_of (set 3 4 ∷ []) }
    → final_picture r ≡ some (picture_bytes drawn)
unfolding final_picture final_clauses run_refused refused_verdict verdict_of
final r e = ap final_picture e ∙ ap (λ (o : Option (List Literals)). and_then o (λ c. some (picture_bytes c))) shown

final_of_lem : (a b : ℕ) → Says (lamp_sheet a b) (with_plan a b) → run_of (sheet_of (lamp_sheet a b)) 65 ≡ record
    { verdict = verdict_of reached; table = table_of (set 3 4 ∷ []) }
    → final_of (lamp_sheet a b) 65 ≡ some (picture_bytes drawn)
final_of_lem a b says e = final_is (lamp_sheet a b) (with_plan a b) says 65 ∙ final (run_of (sheet_of (lamp_sheet a b)) 65) e

world : (w : ℕ) × Starts two w
unfolding within state
world = (4, (omega arith, record { known = tt; ors = tt; oneofs = tt }))

-- they do not touch, though they did by document 01's wording before W2, and change places
pub lamp : (touch out_f out_g ≡ false) × (touch_anywhere out_f out_g ≡ true) ×
    (exchanges (action_at two) (1 ∷ []) (0 ∷ 1 ∷ []) ≡ 1 ∷ 0 ∷ [])
unfolding action_at touch touch_anywhere clash join no_literal named reads changed names
lamp = (refl, refl, refl)

pub met : Met (lamp_sheet 0 1) (lamp_sheet 1 0) (1 ∷ [])
met = record {
  first = with_plan 0 1;
  second = with_plan 1 0;
  sheets = record { first = says_01; second = says_10; alike = refl };
  world = world;
  exchanged = sym lamp.2;
  reached = (reached_by (run_of (sheet_of (lamp_sheet 0 1)) 65) given_01, reached_by (run_of (sheet_of (lamp_sheet 1 0)) 65) given_10);
  pictures = (picture_bytes drawn, final_of_lem 0 1 says_01 given_01, final_of_lem 1 0 says_10 given_10);
}

-- the two sheets differ
pub differ : lamp_sheet 0 1 ≡ lamp_sheet 1 0 → ⊥
differ e = let z : ◌≡◌ {A = ℕ} 0 1 = cc in omega arith
