-- The sheet of document 01 meets what demand 3 asks for. For `demand_3` in proofs/Demands, and for TextExamples. Assumes nothing.
use mathlib.Core.Path.{◌≡◌, refl, sym, ap, ap₂, ◌∙◌}
use mathlib.Core.List.{List, [], ◌∷◌}
use mathlib.Core.Logic.{inl}
use mathlib.Core.Option.{Option, some}
use native.Mathlib.Omega.{arith}
use lib.Dec.{T}
use Rattle.sheet.specs.declared.Literals.{Literals}
use Rattle.sheet.specs.Literals.{has, no_literal, mem, within, clash, consistent, join, flip, replace, single, sign, literal, contains}
use Rattle.sheet.specs.Literals.{state, meets, names, members_from, members}
use Rattle.sheet.specs.Lists.{pad}
use Rattle.sheet.specs.Printed.{printed}
use Rattle.sheet.specs.Format.{sheet_of}
use Rattle.table.specs.Worlds.{and_then}
use Rattle.table.specs.Minimal.{put}
use Rattle.table.specs.Step.{missing, split, image, step_table}
use Rattle.table.specs.Picture.{units, unions, fold, primes, precedes, insert, sort_onto, sort, picture, picture_bytes}
use Rattle.table.specs.Entries.{pairs, entries_of, entries, table_of}
use Rattle.table.specs.Calls.{action_at}
use Rattle.table.proofs.Demands.{start_table_lem}
use Rattle.table.proofs.laws.examples.BenchExamples.{set, paper, bench, paper_proper}
use Rattle.plan.specs.declared.RunAnswer.{RunAnswer}
use Rattle.plan.specs.declared.Verdict.TheVariants as ran
use Rattle.plan.specs.Run.{actions_of, in_goal, Verdict, reached, run_from, last_table}
use Rattle.plan.specs.Calls.{verdict_of, run_of}
use Rattle.plan.specs.Exchange.{changed, reads, touch, exchanges}
use Rattle.plan.specs.Demand3.{refused_verdict, run_refused}
use Rattle.plan.specs.inner.RunEnds.{final_clauses, final_picture}
use Rattle.plan.specs.Demands.{Met}
use Rattle.plan.proofs.laws.runs.CallRuns.{run_call}
use Rattle.plan.proofs.laws.exchanges.ExchangeDemands.{final_is}

abbrev pub first : List Literals
first = set 1 6 ∷ set 2 5 ∷ set 4 3 ∷ []

-- the answer of the call
came : (run_from 128 paper.problem.goal 0 (actions_of paper.problem paper.plan) first ≡ reached)
    × (last_table 128 (actions_of paper.problem paper.plan) first ≡ set 1 6 ∷ [])
unfolding actions_of action_at step_table split missing image put within join clash consistent flip literal single sign replace no_literal
    members members_from contains mem has in_goal meets
came = (refl, refl)

pub given : run_of (sheet_of printed) 65 ≡ record { verdict = verdict_of reached; table = table_of (set 1 6 ∷ []) }
given =
    run_call printed paper bench.says 65 (omega arith) first bench.M1
    ∙ ap₂ {C = RunAnswer} (λ (v : Verdict) (u : List Literals). record { verdict = verdict_of v; table = table_of u }) came.0 came.1

shown : picture (entries (table_of (set 1 6 ∷ []))) ≡ some (set 0 2 ∷ set 0 4 ∷ set 1 0 ∷ [])
unfolding entries table_of entries_of pairs pad has mem within consistent join single sign literal contains members_from members put units
    unions fold primes precedes insert sort_onto sort picture
shown = refl

in_first : T (within (set 1 6) (state 3 1))
unfolding within state
in_first = tt

stays : exchanges (action_at paper.problem) (1 ∷ []) paper.plan ≡ paper.plan
unfolding action_at touch clash join no_literal reads changed names
stays = refl

-- its run is reached, and its final picture has the three clauses f, ¬g, ¬h
reached_here : (run_of (sheet_of printed) 65).verdict ≡ ran.Reached
unfolding verdict_of
reached_here = ap (λ (r : RunAnswer). r.verdict) given

final : final_picture (run_of (sheet_of printed) 65) ≡ some (picture_bytes (set 0 2 ∷ set 0 4 ∷ set 1 0 ∷ []))
unfolding final_picture final_clauses run_refused refused_verdict verdict_of
final = ap final_picture given ∙ ap (λ (o : Option (List Literals)). and_then o (λ r. some (picture_bytes r))) shown

pub met : Met printed printed (1 ∷ [])
met =
    let pictured = final_is printed paper bench.says 65 ∙ final in
    record {
      first = paper;
      second = paper;
      sheets = record { first = bench.says; second = bench.says; alike = refl };
      world = (
        1,
        (
          omega arith,
          ((start_table_lem paper.problem paper_proper.problem 128 first bench.M1).1 1 (omega arith)).0
              (inl in_first),
        ),
      );
      exchanged = sym stays;
      reached = (reached_here, reached_here);
      pictures = (picture_bytes (set 0 2 ∷ set 0 4 ∷ set 1 0 ∷ []), pictured, pictured);
    }
