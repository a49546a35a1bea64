-- `table::entries::Entries::last_singly` meets its contract. The invariant: what the first i sets give is what all of them give. Assumes
-- nothing.
use Rattle.std.proofs.Common.{◌≡◌, take}
use Rattle.table.specs.Fates.{last_within}
use Rattle.table.proofs.entries.Entries.last_singly.Given as goal

abbrev pub invariant-loop-i : goal.invariant-loop-i
invariant-loop-i l = last_within (take l.i l.self) l.candidate ≡ last_within (take l.count l.self) l.candidate
