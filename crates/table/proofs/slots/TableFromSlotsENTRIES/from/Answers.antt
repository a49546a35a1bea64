-- A list of slots as a table meets its contract. Assumes nothing.
use Rattle.std.proofs.Common.{ap, ◌∙◌}
use Rattle.table.specs.Entries.{table_of}
use Rattle.table.proofs.laws.arrays.HeldLists.{holds_table}
use Rattle.table.proofs.slots.TableFromSlotsENTRIES.from.Goals as goal

pub returns : goal.returns
returns c = holds_table _ _ _ _ c.slots.invariant.0 ∙ ap table_of c.slots.view_is
