-- `sheet::reader::Reader::literals` meets its contract. The invariant: the literals so far are read and joined. Assumes nothing.
use Rattle.sheet.specs.Format.{literals}
use Rattle.sheet.proofs.laws.reader.ReadLiterals.{Ahead}
use Rattle.sheet.proofs.reader.Reader.literals.Given as goal

abbrev pub invariant-loop : goal.invariant-loop
invariant-loop l = Ahead (literals l.n.count l.low l.high) l.fn.self l.n.count l.k l.counter l.l l.floor l.self
