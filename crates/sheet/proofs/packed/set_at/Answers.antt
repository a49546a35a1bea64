-- `sheet::packed::set_at` meets its contract. Assumes nothing.
use mathlib.Core.Path.{sym, ◌∙◌}
use native.Mathlib.Omega.{arith}
use Rattle.sheet.proofs.laws.reader.PackedParts.{from_later}
use Rattle.sheet.proofs.packed.set_at.Goals as goal

pub returns : goal.returns
returns c = c.set_from.ensures ∙ sym (from_later _ 1 _ _ (omega arith))
