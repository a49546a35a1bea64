-- `sheet::reader::Reader::effects` meets its contract. The invariant: the effects before i are read and laid. Assumes nothing.
use Rattle.sheet.specs.Form.{times}
use Rattle.sheet.specs.Format.{effect}
use Rattle.sheet.specs.inner.Packed.{effects_at}
use Rattle.sheet.proofs.laws.reader.ReadLoops.{Turns}
use Rattle.sheet.proofs.reader.Reader.effects.Given as goal

abbrev pub invariant-loop-i : goal.invariant-loop-i
invariant-loop-i l = Turns (times l.k (effect l.n.count)) l.fn.self (effect l.n.count) l.k l.i (effects_at l.i l.effects) l.self
