-- `sheet::packed::Effects::len` meets its contract. Assumes nothing.
use mathlib.Core.Path.{sym, ap, ◌∙◌}
use lib.ListN.{length}
use Rattle.sheet.proofs.laws.reader.PackedParts.{effects_long}
use Rattle.sheet.proofs.packed.Effects.len.Goals as goal

pub returns : goal.returns
returns c = sym (effects_long _ _) ∙ ap length c.self.view_is
