-- `table::slots::Slots::push` meets its contract. Assumes nothing.
use Rattle.std.proofs.Common.{◌∙◌, ◌++◌, ap, ◌∷◌, [], arith, length, ℕ, List, ◌≡◌, ◌<◌}
use Rattle.sheet.specs.declared.Literals.{Literals}
use Rattle.table.specs.inner.Slots.{Holds}
use Rattle.table.proofs.laws.arrays.HeldLists.{holds_push, holds_entries, held}
use Rattle.table.proofs.slots.Slots.push.Goals as goal

-- there is room
free : {cap count : ℕ} {es now : List Literals} {ts fs : List ℕ} → Holds cap es count ts fs → es ≡ now → length now < cap → count < cap
free h e lt = omega (arith, h.count_is, ap length e, lt)

pub invariant_of-self : goal.invariant_of-self
invariant_of-self g c =
    let h = c.self.invariant.0 in
    (held (holds_push h (free h c.self.view_is c.requires) c.args.set), c.self.invariant.1)

pub returns : goal.returns
returns g c =
    let h = c.self.invariant.0 in
    holds_entries (holds_push h (free h c.self.view_is c.requires) c.args.set) ∙ ap (λ es. es ++ c.args.set ∷ []) c.self.view_is
