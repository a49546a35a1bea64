-- `memory::remember` meets its contract. Assumes nothing.
use Rattle.plan.proofs.laws.searches.MemorySlots.{kept_by, known_in}
use Rattle.plan.proofs.memory.remember.Goals as goal

pub returns : goal.returns
returns c =
    λ packed count h g.
    let f = c.fill in
    let s = c.args in
    kept_by s.memory.now f.new.slot c.lesser-at.result c.lesser-at.ensures f.ensures.0 packed count h
    (known_in packed count f.new.slot s.entries.now s.mark f.ensures.1 f.ensures.2 g)
