-- `memory::fill` meets its contract. The invariant: mark, count and the first i entries are written. Assumes nothing.
use Rattle.plan.proofs.laws.searches.MemorySlots.{Laid}
use Rattle.plan.proofs.memory.fill.Given as goal

abbrev pub invariant-loop-i : goal.invariant-loop-i
invariant-loop-i l = Laid l.slot l.entries l.mark l.i
