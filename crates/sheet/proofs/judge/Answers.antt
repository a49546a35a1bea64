-- `sheet::judge` meets its contract: the answer is that of `decode`. Assumes nothing.
use mathlib.Core.Path.{◌∙◌}
use Rattle.sheet.proofs.laws.reader.ReadSheets.{exit, refused_answer, accepted_answer}
use Rattle.sheet.proofs.judge.Goals as goal

pub returns-in_err-decode : goal.returns-in_err-decode
returns-in_err-decode c = exit _ c.from_residual.ensures.1 ∙ refused_answer _ _ c.decode.ensures.judgement c.in_err-decode.was

pub returns : goal.returns
returns c = accepted_answer _ _ c.decode.ensures.judgement c.in_ok-decode.was
