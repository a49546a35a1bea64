-- `table::picture_clauses::absorbs` meets its contract. Assumes nothing.
use mathlib.Core.Path.{sym, ◌∙◌}
use native.Mathlib.Omega.{arith}
use Rattle.sheet.specs.Literals.{within}
use Rattle.sheet.proofs.laws.base.Bools.{true_T}
use Rattle.sheet.proofs.laws.base.ListFacts.{any_test}
use Rattle.table.proofs.picture_clauses.absorbs.Goals as goal

pub returns-then-len-room : goal.returns-then-len-room
returns-then-len-room c = λ e.
    (any_test (λ u. within u c.args.clause) c.args.others.now (true_T _ (sym c.some_within.ensures ∙ e)), omega arith)
