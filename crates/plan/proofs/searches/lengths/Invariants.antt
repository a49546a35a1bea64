-- `plan::searches::lengths` meets its contract. The loop's invariant: no plan that is shorter has an answer, and what the memory says is
-- so. Assumes nothing.
use Rattle.plan.proofs.laws.searches.TriedPlans.{Lengths}
use Rattle.plan.proofs.searches.lengths.Given as goal

abbrev pub invariant-loop-length : goal.invariant-loop-length
invariant-loop-length l = Lengths l.packed l.moves l.entries l.memory l.length
