-- A sheet that was read, its moves and goal in a packed array: the search from the table of its start is that of its problem. For
-- `searches::search_sheet`. Assumes nothing.
use mathlib.Core.Path.{◌≡◌, sym, ap, ap₂, ◌∙◌}
use mathlib.Core.List.{List}
use Prim.Native.Nat.{ℕ}
use Rattle.sheet.specs.declared.Literals.{Literals}
use Rattle.sheet.specs.declared.Sheet.{Sheet}
use Rattle.sheet.specs.Problem.{Action, Problem}
use Rattle.sheet.specs.inner.Decoded.{problem_in, Filled}
use Rattle.sheet.specs.inner.Packed.{sets_in, action_of, goal_in, moves_in}
use Rattle.sheet.proofs.laws.base.ListFacts.{all_map}
use Rattle.table.specs.Minimal.{refused, table}
use Rattle.table.specs.Start.{start_table}
use Rattle.plan.specs.Run.{Verdict, actions_of, run_from}
use Rattle.plan.specs.Search.{plans_up_to, first_of}
use Rattle.plan.specs.Order.{PlanOf}
use Rattle.plan.specs.Calls.{refused_search, answered, searched_from, searched}
use Rattle.plan.specs.inner.Searches.{ran_from, searched_by}
use Rattle.plan.proofs.laws.searches.PlanOrder.{out_plans}
use Rattle.plan.proofs.laws.searches.FirstByMove.{same_first}
use Rattle.plan.proofs.laws.runs.SheetRuns.{count_is, goal_is, plan_laid}

module _ (x : Sheet) (packed : List ℕ) (h : Filled x packed) (limit : ℕ) where
  abbrev p : Problem
  p = problem_in x packed

  -- its start gave a table
  module _ {us : List Literals} (e : start_table 128 p ≡ table us) where
    abbrev run : List ℕ → Verdict
    run q = run_from 128 p.goal 0 (actions_of p q) us

    pub search_is : searched_by packed x.moves us limit ≡ searched p limit (start_table 128 p)
    unfolding searched searched_from
    search_is =
        ap answered (same_first _ run (plans_up_to x.moves limit)
        (all_map (PlanOf x.moves limit) (λ q. ran_from (sets_in (goal_in packed)) (action_of (moves_in packed)) 0 us q ≡ run q)
        (λ q w. ap₂ (λ (g : List Literals) (a : List Action). run_from 128 g 0 a us) (goal_is x packed h) (plan_laid x packed h q w.0))
        (plans_up_to x.moves limit) (out_plans x.moves limit)))
        ∙ ap (λ (k : ℕ). answered (first_of run (plans_up_to k limit))) (sym (count_is x packed h))
        ∙ sym (ap (searched p limit) e)

  -- its start was refused
  pub search_stops : {k : ℕ} → start_table 128 p ≡ refused k → refused_search k 0 ≡ searched p limit (start_table 128 p)
  unfolding searched
  search_stops e = sym (ap (searched p limit) e)
