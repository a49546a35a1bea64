-- `sheet::reader::Reader::actions` meets its contract. The invariant: the moves before i are read and laid. Assumes nothing.
use Rattle.sheet.specs.Format.{action, actions}
use Rattle.sheet.specs.inner.Packed.{actions_at}
use Rattle.sheet.proofs.laws.reader.ReadLoops.{Turns}
use Rattle.sheet.proofs.reader.Reader.actions.Given as goal

abbrev pub invariant-loop-i : goal.invariant-loop-i
invariant-loop-i l = Turns (actions l.n.count) l.fn.self (action l.n.count) l.k l.i (actions_at l.i l.section) l.self
