-- The first plan that a search does not pass over, by the verdicts of runs from a table.
use Rattle.std.specs.Prelude.{◌≡◌, List, ℕ}
use Rattle.plan.specs.Run.{Verdict, reached, short, stopped, full}
use Rattle.plan.specs.Order.{PlanOf, Earlier}

-- neither reached nor full
abbrev pub Fails : Verdict → Type 0
Fails reached = ⊥
Fails short = Unit {0}
Fails (stopped k N) = Unit {0}
Fails (full k) = ⊥

-- p is within the limit and its run gives v; every earlier plan within the limit fails
pub record FirstPlan (run : List ℕ → Verdict) (k limit : ℕ) (p : List ℕ) (v : Verdict) : Type 0 where
  pub plan : PlanOf k limit p
  pub gives : run p ≡ v
  pub earlier : (q : List ℕ) → PlanOf k limit q → Earlier q p → Fails (run q)
