-- `table::picture_lent` meets its contract. Assumes nothing.
use mathlib.Core.Path.{refl, ap}
use Rattle.std.specs.Prelude.{ℕ, Result}
use Rattle.sheet.specs.declared.Fault.{Fault}
use Rattle.sheet.specs.inner.Decoded.{problem_in, statement_in}
use Rattle.sheet.proofs.laws.reader.ReadSheets.{exit, refused_says, accepted_says}
use Rattle.table.specs.Entries.{entries}
use Rattle.table.specs.PictureCalls.{picture_of, buffer_of, refusal}
use Rattle.table.specs.inner.PictureClauses.{picture_answer}
use Rattle.table.proofs.picture_lent.Goals as goal

pub returns-in_err-sheet : goal.returns-in_err-sheet
unfolding picture_of buffer_of refusal
returns-in_err-sheet c =
    let e = refused_says _ _ c.decode.ensures.judgement c.in_err-sheet.was in
    record {
      value = rw e (ap (λ (r : Result ℕ Fault). picture_answer r) (exit _ c.from_residual.ensures.1));
      buffer_after = rw e refl;
    }

pub returns : goal.returns
unfolding picture_of buffer_of entries statement_in problem_in
returns c =
    let e = accepted_says _ _ c.decode.ensures.judgement c.in_ok-sheet.was in
    record { value = rw e c.draw.ensures.value; buffer_after = rw e c.draw.ensures.buffer_after }
