-- `table::starts::lay_others` meets its contract. The invariant: the others below j are there. Assumes nothing.
use Rattle.table.proofs.laws.starts.OtherAlternatives.{Laying}
use Rattle.table.proofs.starts.lay_others.Given as goal

abbrev pub invariant-loop-j : goal.invariant-loop-j
invariant-loop-j l = Laying l.alts l.i l.j l.rest
