-- `plan::searches::search_sheet` meets its contract. Assumes nothing.
use mathlib.Core.Path.{◌∙◌}
use Rattle.plan.proofs.laws.runs.CameTables.{came_table, came_refused}
use Rattle.plan.proofs.laws.runs.SheetRuns.{movable}
use Rattle.plan.proofs.laws.searches.SheetSearches.{search_is, search_stops}
use Rattle.plan.proofs.searches.search_sheet.Goals as goal

pub lengths-requires-clause-movable : goal.lengths-requires-clause-movable
lengths-requires-clause-movable c =
    movable c.args.sheet c.args.packed.now c.requires.filled (came_table c.first_into.ensures c.in-Ok.is c.entries.ensures)

pub returns-in-Ok : goal.returns-in-Ok
returns-in-Ok c =
    c.lengths.ensures ∙ search_is c.args.sheet c.args.packed.now c.requires.filled c.args.limit
    (came_table c.first_into.ensures c.in-Ok.is c.entries.ensures)

pub returns-in-Err : goal.returns-in-Err
returns-in-Err c =
    c.refuse_search.ensures ∙ search_stops c.args.sheet c.args.packed.now c.requires.filled c.args.limit
    (came_refused c.first_into.ensures c.in-Err.is)
