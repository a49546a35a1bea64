-- `text::Writer::number_at` meets its contract: five pieces one after the other. Assumes nothing.
use Rattle.plan.specs.Text.{number_at}
use Rattle.plan.proofs.laws.text.TextBytes.{wrote_then}
use Rattle.plan.proofs.text.Writer.number_at.Goals as goal

pub returns : goal.returns
unfolding number_at
returns c =
    wrote_then c.bytes.ensures (wrote_then c.number.ensures.wrote
    (wrote_then c.bytes-2.ensures (wrote_then c.number-2.ensures.wrote c.bytes-3.ensures)))
