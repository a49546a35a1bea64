-- `table::steps::opposed` meets its contract. Assumes nothing.
use Rattle.std.proofs.Common.{sym, ◌∙◌}
use Rattle.table.proofs.laws.steps.PairScan.{agreeing}
use Rattle.table.proofs.steps.opposed.Goals as goal

pub returns : goal.returns
returns c = sym (agreeing _ _ _ (sym c.clash.ensures ∙ c.if-clash.false))
