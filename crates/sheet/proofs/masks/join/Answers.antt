-- `sheet::masks::join` meets its contract. Assumes nothing.
use mathlib.Core.Path.{refl}
use Rattle.sheet.specs.Literals.{join}
use Rattle.sheet.proofs.masks.join.Goals as goal

pub returns : goal.returns
unfolding join
returns c = refl
