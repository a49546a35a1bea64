-- `sheet::packed::Sets::at` meets its contract. Assumes nothing.
use mathlib.Core.Path.{sym, ap, ◌∙◌}
use mathlib.Core.List.{List}
use native.Mathlib.Omega.{arith}
use lib.ListN.{length, get_or}
use Rattle.sheet.specs.declared.Literals.{Literals}
use Rattle.sheet.specs.Literals.{no_literal}
use Rattle.sheet.specs.inner.Packed.{sets_in}
use Rattle.sheet.proofs.laws.reader.PackedParts.{sets_long, sets_get}
use Rattle.sheet.proofs.packed.Sets.at.Goals as goal

pub set_at-requires : goal.set_at-requires
unfolding sets_in
set_at-requires c =
    let l = sym (sets_long _ _) ∙ ap length c.self.view_is in
    omega (arith, l, c.self.invariant.0, c.self.invariant.1)

pub returns : goal.returns
unfolding sets_in
returns c =
    let l = sym (sets_long _ _) ∙ ap length c.self.view_is in
    c.set_at.ensures ∙ sym (sets_get _ _ _ no_literal (omega (arith, l)))
    ∙ ap (λ (xs : List Literals). get_or xs c.args.i no_literal) c.self.view_is
