-- `sheet::packed::Effects::at` meets its contract. Assumes nothing.
use mathlib.Core.Path.{sym, ap, ◌∙◌}
use mathlib.Core.List.{List}
use native.Mathlib.Omega.{arith}
use lib.ListN.{length, get_or}
use Rattle.sheet.specs.declared.Effect.{Effect}
use Rattle.sheet.specs.inner.Packed.{no_effect}
use Rattle.sheet.proofs.laws.reader.PackedParts.{effects_long, effects_get}
use Rattle.sheet.proofs.packed.Effects.at.Goals as goal

pub effect_at-requires : goal.effect_at-requires
effect_at-requires c =
    let l = sym (effects_long _ _) ∙ ap length c.self.view_is in
    omega (arith, l, c.self.invariant)

pub returns : goal.returns
returns c =
    let l = sym (effects_long _ _) ∙ ap length c.self.view_is in
    c.effect_at.ensures ∙ sym (effects_get _ _ _ no_effect (omega (arith, l)))
    ∙ ap (λ (xs : List Effect). get_or xs c.args.i no_effect) c.self.view_is
