-- `table::entries::Entries::last_within` meets its contract. The invariant: what the sets below the blocks that were tested give is what
-- all give. Assumes nothing.
use Rattle.std.proofs.Common.{◌≡◌, ◌+◌, ◌*◌, take}
use Rattle.table.specs.Fates.{last_within}
use Rattle.table.proofs.entries.Entries.last_within.Given as goal

abbrev pub invariant-loop-block : goal.invariant-loop-block
invariant-loop-block l = last_within (take (l.rest + 4 * l.block) l.self) l.candidate ≡ last_within l.self l.candidate
