-- `sheet::packed::Sets::len` meets its contract. Assumes nothing.
use mathlib.Core.Path.{sym, ap, ◌∙◌}
use lib.ListN.{length}
use Rattle.sheet.specs.inner.Packed.{sets_in}
use Rattle.sheet.proofs.laws.reader.PackedParts.{sets_long}
use Rattle.sheet.proofs.packed.Sets.len.Goals as goal

pub returns-clause-value : goal.returns-clause-value
unfolding sets_in
returns-clause-value c = c.count_of.ensures ∙ sym (sets_long _ _) ∙ ap length c.self.view_is
