-- `sheet::reader::Reader::clauses` meets its contract. The invariant: the clauses before i are read and laid. Assumes nothing.
use Rattle.sheet.specs.Format.{clause, clauses}
use Rattle.sheet.specs.inner.Packed.{clauses_at}
use Rattle.sheet.proofs.laws.reader.ReadLoops.{Turns}
use Rattle.sheet.proofs.reader.Reader.clauses.Given as goal

abbrev pub invariant-loop-i : goal.invariant-loop-i
invariant-loop-i l = Turns (clauses l.n.count) l.fn.self (clause l.n.count) l.k l.i (clauses_at l.i l.section) l.self
