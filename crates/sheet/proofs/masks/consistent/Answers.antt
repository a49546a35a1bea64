-- `sheet::masks::consistent` meets its contract. Assumes nothing.
use mathlib.Core.Path.{refl}
use Rattle.sheet.specs.Literals.{consistent}
use Rattle.sheet.proofs.masks.consistent.Goals as goal

pub returns : goal.returns
unfolding consistent
returns c = refl
