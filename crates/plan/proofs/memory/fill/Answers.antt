-- `memory::fill` meets its contract. Assumes nothing.
use native.Mathlib.Omega.{arith}
use Rattle.plan.proofs.laws.searches.MemorySlots.{laid_table}
use Rattle.plan.proofs.memory.fill.Goals as goal

pub returns : goal.returns
returns c =
    let g = c.loop-i.invariant in
    (g.long, g.mark_is, laid_table g c.requires.few (omega arith))
