-- `table::starts::grow_all` meets its contract. The invariant: the clauses from i on give the whole. Assumes nothing.
use mathlib.Core.Path.{sym, ap, ◌∙◌}
use mathlib.Core.List.{List}
use Rattle.std.proofs.lemmas.Result.{err_from_is_err_and}
use Rattle.table.specs.Start.{Clause, grow_all}
use Rattle.table.proofs.laws.starts.PackedClauses.{clause_fits, clauses_step, clauses_end}
use Rattle.table.proofs.laws.starts.StartOutcomes.{came_table, section_on, section_refused}
use Rattle.table.proofs.starts.grow_all.Goals as goal

pub of-alts-requires : goal.of-alts-requires
of-alts-requires c = clause_fits _ _ c.loop-i.i c.requires c.loop-i-test.true

pub returns-in_err-grow : goal.returns-in_err-grow
returns-in_err-grow c =
    let p = err_from_is_err_and c.from_residual.result c.from_residual.ensures.1 in
    rw (p.1, p.2) (section_refused _ c.loop-i.invariant (clauses_step c.args.kind _ _ _ c.loop-i-test.true c.of-alts.ensures)
    c.grow.ensures c.in_err-grow.was)

pub loop-i-preserved : goal.loop-i-preserved
loop-i-preserved c =
    section_on _ c.loop-i.invariant (clauses_step c.args.kind _ _ _ c.loop-i-test.true c.of-alts.ensures) c.grow.ensures
    c.in_ok-grow.was

pub returns : goal.returns
returns c = came_table (sym c.loop-i.invariant ∙ ap (λ (x : List Clause). grow_all 128 x c.loop-i.table)
    (clauses_end c.args.kind _ _ _ c.loop-i-test.false))
