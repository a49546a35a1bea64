-- `table::start_lent` meets its contract. Assumes nothing.
use mathlib.Core.Path.{sym, ap, ◌∙◌}
use Rattle.std.specs.Prelude.{Result}
use Rattle.sheet.specs.declared.Fault.{Fault}
use Rattle.sheet.specs.inner.Decoded.{statement_in}
use Rattle.sheet.proofs.laws.reader.ReadSheets.{exit, refused_says, accepted_says, filled}
use Rattle.table.specs.Calls.{start_of}
use Rattle.table.specs.inner.Starts.{start_answer}
use Rattle.table.proofs.laws.starts.StartCall.{start_fault, start_outcome}
use Rattle.table.proofs.start_lent.Goals as goal

pub first_into-requires : goal.first_into-requires
first_into-requires c = record {
  filled = filled _ _ c.decode.ensures.judgement c.in_ok-sheet.was c.in_ok-sheet.ensures.few c.decode.array_long;
  empty = c.requires;
}

pub returns-in_err-sheet : goal.returns-in_err-sheet
returns-in_err-sheet c =
    ap (λ (r : Result Unit Fault). start_answer r c.args.to.now) (exit _ c.from_residual.ensures.1)
    ∙ start_fault _ _ _ c.args.to.now (refused_says _ _ c.decode.ensures.judgement c.in_err-sheet.was)

pub returns : goal.returns
unfolding start_of statement_in
returns c =
    start_outcome _ _ _ c.first_into.ensures
    ∙ sym (ap start_of (accepted_says _ _ c.decode.ensures.judgement c.in_ok-sheet.was))
