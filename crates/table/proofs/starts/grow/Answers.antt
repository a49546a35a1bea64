-- `table::starts::grow` meets its contract. Assumes nothing.
use mathlib.Core.Path.{refl, sym, ◌∙◌}
use Rattle.std.proofs.lemmas.Result.{err_from_is_err_and}
use Rattle.table.proofs.laws.starts.StartOutcomes.{came_table, came_refused, grown_full, grown_empty, grown_table}
use Rattle.table.proofs.starts.grow.Goals as goal

pub returns-in_err-widen_all : goal.returns-in_err-widen_all
returns-in_err-widen_all c =
    let p = err_from_is_err_and c.from_residual.result c.from_residual.ensures.1 in
    let w = rw (c.new-fresh.ensures, c.entries.ensures) at c.widen_all.ensures in
    rw (p.1, p.2) (came_refused (grown_full _ _ w c.in_err-widen_all.was) refl)

pub returns-then-len-eq0 : goal.returns-then-len-eq0
returns-then-len-eq0 c =
    let w = rw (c.new-fresh.ensures, c.entries.ensures) at c.widen_all.ensures in
    came_refused (grown_empty _ _ w c.in_ok-widen_all.was (sym c.len.ensures.count ∙ c.if-len-eq0.true)) refl

pub returns : goal.returns
returns c =
    let w = rw (c.new-fresh.ensures, c.entries.ensures) at c.widen_all.ensures in
    came_table (grown_table _ _ w c.in_ok-widen_all.was (λ e. c.if-len-eq0.false (c.len.ensures.count ∙ e)))
