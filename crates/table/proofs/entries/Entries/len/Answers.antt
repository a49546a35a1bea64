-- `table::entries::Entries::len` meets its contract. Assumes nothing.
use Rattle.std.proofs.Common.{refl, sym, ap, ◌∙◌, length}
use Rattle.table.proofs.laws.arrays.HeldLists.{length_pairs}
use Rattle.table.proofs.entries.Entries.len.Goals as goal

pub returns : goal.returns
returns c = sym (length_pairs _ _ _ refl (sym c.self.invariant)) ∙ ap length c.self.view_is
