-- `table::starts::first_into` meets its contract. Assumes nothing.
use Rattle.std.proofs.lemmas.Result.{err_from_is_err_and}
use Rattle.sheet.specs.inner.Decoded.{problem_in}
use Rattle.table.specs.Start.{start_clauses, start_table}
use Rattle.table.proofs.laws.starts.PackedClauses.{ors_fit, oneofs_fit}
use Rattle.table.proofs.laws.starts.StartOutcomes.{sections_refused, sections_on}
use Rattle.table.proofs.starts.first_into.Goals as goal

pub grow_all-requires : goal.grow_all-requires
grow_all-requires c = ors_fit _ _ c.requires.filled

pub grow_all-requires-2 : goal.grow_all-requires-2
grow_all-requires-2 c = oneofs_fit _ _ c.requires.filled

pub returns-in_err-grow_all : goal.returns-in_err-grow_all
unfolding start_table start_clauses problem_in
returns-in_err-grow_all c =
    let p = err_from_is_err_and c.from_residual.result c.from_residual.ensures.1 in
    let w = rw (c.push.ensures, c.requires.empty) at c.grow_all.ensures in
    rw (p.1, p.2) (sections_refused _ _ _ w c.in_err-grow_all.was)

pub returns : goal.returns
unfolding start_table start_clauses problem_in
returns c =
    let w = rw (c.push.ensures, c.requires.empty) at c.grow_all.ensures in
    sections_on _ _ _ w c.in_ok-grow_all.was c.grow_all-2.ensures
