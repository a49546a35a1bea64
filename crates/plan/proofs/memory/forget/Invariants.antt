-- `memory::forget` meets its contract. The invariant: the first j slots have no mark. Assumes nothing.
use mathlib.Core.Path.{◌≡◌}
use Prim.Native.Nat.{ℕ, ◌<◌, ◌*◌}
use lib.ListN.{length, get_or}
use Rattle.plan.proofs.memory.forget.Given as goal

abbrev pub invariant-loop-j : goal.invariant-loop-j
invariant-loop-j l = (length l.memory ≡ length l.initial.memory) × ((i : ℕ) → i < l.j → get_or l.memory (i * 258) 0 ≡ 0)
