-- `memory::forget` meets its contract. Assumes nothing.
use mathlib.Core.Path.{◌∙◌}
use native.Mathlib.Omega.{arith}
use Rattle.plan.proofs.laws.searches.MemorySlots.{blank, mark_head}
use Rattle.plan.proofs.memory.forget.Goals as goal

pub returns : goal.returns
returns c = λ packed count.
    let g = c.loop-j in
    blank packed count g.memory (λ j l. mark_head g.memory j
    ∙ g.invariant.1 j (omega arith))
