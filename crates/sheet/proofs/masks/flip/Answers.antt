-- `sheet::masks::flip` meets its contract. Assumes nothing.
use mathlib.Core.Path.{refl}
use Rattle.sheet.specs.Literals.{flip}
use Rattle.sheet.proofs.masks.flip.Goals as goal

pub returns : goal.returns
unfolding flip
returns c = refl
