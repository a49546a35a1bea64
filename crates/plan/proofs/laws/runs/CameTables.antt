-- What came of a start or a step (`Came`), by the case of its result: the table, or the number. For `searches::try_move` and
-- `searches::search_sheet`. Assumes nothing.
use mathlib.Core.Path.{◌≡◌, sym, ap, ◌∙◌}
use mathlib.Core.List.{List}
use Rattle.std.specs.Prelude.{Result, Ok, Err}
use Rattle.sheet.specs.declared.Fault.{Fault}
use Rattle.sheet.specs.declared.Literals.{Literals}
use Rattle.table.specs.Minimal.{Outcome, refused, table}
use Rattle.table.specs.inner.Outcomes.{outcome_of, Came}

module _ {r : Result Unit Fault} {us : List Literals} {o : Outcome} (h : Came r us o) where
  -- the table, by the entries vs that are lent of it
  pub came_table : {vs : List Literals} {done : Unit} → r ≡ Ok done → vs ≡ us → o ≡ table vs
  came_table e q = sym h.outcome ∙ ap (λ (x : Result Unit Fault). outcome_of x us) e ∙ ap table (sym q)

  pub came_refused : {fault : Fault} → r ≡ Err fault → o ≡ refused fault.number
  came_refused e = sym h.outcome ∙ ap (λ (x : Result Unit Fault). outcome_of x us) e
