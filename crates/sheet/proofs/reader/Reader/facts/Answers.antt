-- `sheet::reader::Reader::facts` meets its contract. Assumes nothing.
use borrow.Author.Rules.{rules}
use Rattle.sheet.specs.Format.{facts}
use Rattle.sheet.proofs.laws.reader.ReadParts.{left_all, left_after, left_stop, left_end}
use Rattle.sheet.proofs.laws.reader.ReadSheets.{facts_laid}
use Rattle.sheet.proofs.reader.Reader.facts.Goals as goal

pub returns-in_err-count : goal.returns-in_err-count
unfolding facts
returns-in_err-count c = left_stop _ (left_all _ _) c.count.ensures.reads c.in_err-count.was c.from_residual.ensures.1

pub returns-in_err-known : goal.returns-in_err-known
unfolding facts
returns-in_err-known c =
    left_stop _ (left_after _ (left_all _ _) c.count.ensures.reads c.in_ok-count.was)
    c.literals.ensures c.in_err-known.was c.from_residual-in_err-known.ensures.1

pub returns-in_err-ors : goal.returns-in_err-ors
unfolding facts
returns-in_err-ors c =
    left_stop _ (left_after _ (left_after _ (left_all _ _) c.count.ensures.reads c.in_ok-count.was) c.literals.ensures c.in_ok-known.was)
    c.clauses.ensures c.in_err-ors.was c.from_residual-in_err-ors.ensures.1

pub returns-in_err-oneofs : goal.returns-in_err-oneofs
unfolding facts
returns-in_err-oneofs c =
    left_stop _
    (left_after _
    (left_after _ (left_after _ (left_all _ _) c.count.ensures.reads c.in_ok-count.was) c.literals.ensures c.in_ok-known.was)
    c.clauses.ensures c.in_ok-ors.was)
    c.clauses-2.ensures c.in_err-oneofs.was c.from_residual-in_err-oneofs.ensures.1

pub returns : goal.returns
unfolding facts
returns c =
    left_end
    (left_after _
    (left_after _
    (left_after _ (left_after _ (left_all _ _) c.count.ensures.reads c.in_ok-count.was) c.literals.ensures c.in_ok-known.was)
    c.clauses.ensures c.in_ok-ors.was)
    c.clauses-2.ensures c.in_ok-oneofs.was)
    (facts_laid c.args.packed.now _ c.requires (search rules) _ (search rules)
    c.in_ok-count.count c.in_ok-known.known c.in_ok-ors.ors c.in_ok-oneofs.oneofs)
