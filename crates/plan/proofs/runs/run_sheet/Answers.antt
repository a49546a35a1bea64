-- `plan::runs::run_sheet` meets its contract. Assumes nothing.
use mathlib.Core.Path.{sym, ◌∙◌}
use Rattle.plan.proofs.laws.runs.CourseOfBytes.{refusal_is}
use Rattle.plan.proofs.laws.runs.SheetRuns.{runnable, run_is, run_stops}
use Rattle.plan.proofs.runs.run_sheet.Goals as goal

pub run_from-requires-clause-runnable : goal.run_from-requires-clause-runnable
run_from-requires-clause-runnable c = runnable _ _ c.requires.filled (sym c.in-Ok.ensures.outcome)

pub returns-in-Ok : goal.returns-in-Ok
returns-in-Ok c = c.run_from.ensures ∙ run_is _ _ c.requires.filled (sym c.in-Ok.ensures.outcome)

pub returns-in-Err : goal.returns-in-Err
returns-in-Err c =
    refusal_is _ 0 c.new.ensures c.requires.no_row ∙ run_stops _ _ c.requires.filled (sym c.in-Err.ensures.outcome)
