-- `table::starts::grow_all` meets its contract. The invariant: the clauses from i on give the whole. Assumes nothing.
use mathlib.Core.Path.{◌≡◌}
use mathlib.Core.List.{map}
use lib.ListN.{drop}
use Rattle.sheet.specs.inner.Packed.{clauses_at}
use Rattle.table.specs.Start.{grow_all}
use Rattle.table.specs.inner.Starts.{clause_of}
use Rattle.table.proofs.starts.grow_all.Given as goal

abbrev pub invariant-loop-i : goal.invariant-loop-i
invariant-loop-i l = grow_all 128 (map (clause_of l.kind) (drop l.i (clauses_at l.size l.clauses))) l.table
    ≡ grow_all 128 (map (clause_of l.kind) (clauses_at l.size l.clauses)) l.initial.table
