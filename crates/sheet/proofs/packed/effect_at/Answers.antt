-- `sheet::packed::effect_at` meets its contract. Assumes nothing.
use Rattle.sheet.specs.inner.Packed.{effect_at}
use Rattle.sheet.proofs.packed.effect_at.Goals as goal

pub returns : goal.returns
unfolding effect_at
returns c = let a = c.set_from.ensures in let b = c.set_from-2.ensures in (λ k. record { condition = a k; result = b k })
