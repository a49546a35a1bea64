-- `text::Writer::row` meets its contract: six pieces one after the other. Assumes nothing.
use Rattle.plan.specs.Text.{row_text}
use Rattle.plan.proofs.laws.text.TextBytes.{wrote_then}
use Rattle.plan.proofs.text.Writer.row.Goals as goal

pub returns-clause-wrote : goal.returns-clause-wrote
unfolding row_text
returns-clause-wrote c =
    wrote_then c.number.ensures.wrote (wrote_then c.bytes.ensures (wrote_then c.number-2.ensures.wrote
    (wrote_then c.bytes-2.ensures (wrote_then c.clauses.ensures.wrote c.bytes-3.ensures))))
