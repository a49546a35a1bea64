-- Rows that are lent to a run.
use Rattle.plan.specs.declared.Row.{Row}

-- a row before anything is written
abbrev pub no_row : Row
no_row = record { place = 0; entries = 0; clauses = 0 }
