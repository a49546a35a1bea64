-- `table::entries::Entries::at` meets its contract. Assumes nothing.
use Rattle.std.proofs.Common.{◌≡◌, ℕ, ◌<◌, List, refl, sym, ap, ◌∙◌, length, get_or, arith}
use Rattle.sheet.specs.declared.Literals.{Literals}
use Rattle.sheet.specs.Literals.{no_literal}
use Rattle.table.specs.Entries.{pairs}
use Rattle.table.proofs.laws.arrays.HeldLists.{length_pairs, get_d_pairs}
use Rattle.table.proofs.entries.Entries.at.Goals as goal

-- a place of the sets is one of the slices
below : (ts fs : List ℕ) (es : List Literals) (i : ℕ) → length ts ≡ length fs → pairs ts fs ≡ es → i < length es → i < length ts
below ts fs es i l e h = omega (arith, h, ap length e, length_pairs (length ts) ts fs refl (sym l))

pub offset_bounds-trues-i : goal.offset_bounds-trues-i
offset_bounds-trues-i c = let h = below _ _ _ _ c.self.invariant c.self.view_is c.requires in omega (arith, h)

pub bounds-trues-i : goal.bounds-trues-i
bounds-trues-i c = below _ _ _ _ c.self.invariant c.self.view_is c.requires

pub offset_bounds-falses-i : goal.offset_bounds-falses-i
offset_bounds-falses-i c = let h = below _ _ _ _ c.self.invariant c.self.view_is c.requires in omega (arith, h)

pub bounds-falses-i : goal.bounds-falses-i
bounds-falses-i c =
    let h = below _ _ _ _ c.self.invariant c.self.view_is c.requires in omega (arith, h, c.self.invariant)

pub returns : goal.returns
returns c =
    let h = below _ _ _ _ c.self.invariant c.self.view_is c.requires in
    sym (get_d_pairs _ _ _ _ refl (sym c.self.invariant) h) ∙ ap (λ es. get_or es c.args.i no_literal) c.self.view_is
