-- `sheet::packed::write_effect` meets its contract. Assumes nothing.
use mathlib.Core.Path.{◌≡◌, ap, ap₂, ◌∙◌}
use mathlib.Core.List.{List, ◌++◌}
use Prim.Native.Nat.{ℕ, ◌+◌, ◌-◌}
use native.Mathlib.Omega.{arith}
use lib.ListN.{take, drop}
use lib.Seq.{drop-drop}
use Rattle.sheet.specs.inner.Packed.{masks_of}
use Rattle.sheet.proofs.packed.write_effect.Goals as goal

pub returns : goal.returns
unfolding masks_of
returns c =
    let xs = c.args.effects.now in
    let four : c.args.at + 4 - c.args.at ≡ 4 = omega arith in
    ap₂ (λ (ys zs : List ℕ). take c.args.at xs ++ (ys ++ zs)) c.copy_from_slice.ensures.after
    (ap (λ (n : ℕ). drop n (drop c.args.at xs)) four ∙ drop-drop 4 c.args.at xs)
