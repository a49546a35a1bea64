-- `text::Writer::verdict` meets its contract: the one line of three pieces. Assumes nothing.
use Rattle.plan.specs.Text.{last_line}
use Rattle.plan.proofs.laws.text.TextBytes.{wrote_then}
use Rattle.plan.proofs.text.Writer.verdict.Goals as goal

pub returns-in-Full : goal.returns-in-Full
unfolding last_line
returns-in-Full c =
    rw c.in-Full.is (wrote_then c.bytes-in-Full.ensures (wrote_then c.number.ensures.wrote c.bytes-in-Full-2.ensures))
