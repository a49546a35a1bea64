-- `sheet::packed::set_from` meets its contract. Assumes nothing.
use borrow.Author.Rules.{rules}
use Rattle.sheet.specs.inner.Packed.{set_from}
use Rattle.sheet.proofs.packed.set_from.Goals as goal

pub returns : goal.returns
unfolding set_from
returns c = search rules
