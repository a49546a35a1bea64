-- `text::Writer::run` meets its contract: the header, the rows and the last line one after the other. Assumes nothing.
use Rattle.std.proofs.Common.{sym, ◌∙◌}
use Rattle.plan.proofs.laws.text.TextBytes.{refused_text, whole_text}
use Rattle.plan.proofs.text.Writer.run.Goals.{then-not-is_refused, else-not-is_refused}
use Rattle.plan.proofs.text.Writer.run.Goals as goal

pub returns : goal.returns
returns c = elim c.if-not-is_refused.branch [
  | then-not-is_refused w ↦ whole_text _ _ (sym c.is_refused.ensures ∙ w.if-not-is_refused.true) w.bytes.ensures w.rows.ensures.wrote
      (rw w.self-is at c.verdict.ensures)
  | else-not-is_refused w ↦ refused_text _ _ (sym c.is_refused.ensures ∙ w.if-not-is_refused.false) (rw w.self-is at c.verdict.ensures)
]
