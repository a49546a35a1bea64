-- `table::slots::Slots::remove` meets its contract. The invariant: the slots below i are done. Assumes nothing.
use Rattle.std.proofs.Common.{sym, ap, ◌∙◌, not, arith, take, length}
use Rattle.sheet.specs.declared.Literals.{Literals}
use Rattle.sheet.specs.Literals.{within}
use Rattle.sheet.specs.Lists.{any_of}
use Rattle.table.specs.Fates.{left}
use Rattle.table.proofs.laws.arrays.HeldLists.{holds_entries, held, length_entries_of}
use Rattle.table.proofs.laws.arrays.KeptMembers.{none_goes}
use Rattle.table.proofs.laws.arrays.Compaction.{moved_is, moved_start, moved_gone, moved_kept, moved_end}
use Rattle.table.proofs.slots.Slots.remove.Goals as goal
use Rattle.table.proofs.slots.Slots.remove.Goals.{else-not-within, then-not-within}

pub returns-then-not-some_above : goal.returns-then-not-some_above
returns-then-not-some_above g c =
    let above = λ (e : Literals). within c.args.candidate e in
    sym (none_goes above _ (ap (any_of above) (sym c.entries.ensures) ∙ sym c.some_above.ensures ∙ c.if-not-some_above.true))

pub loop-i-init : goal.loop-i-init
loop-i-init g c =
    let above = λ (e : Literals). within c.args.candidate e in
    let f = c.first_above-first in
    let same = c.self.view_is ∙ sym c.entries-2.ensures in
    moved_start _ c.self.invariant.0 _ (omega (arith, f.ensures.bound, ap length same, length_entries_of))
    (none_goes above _ (ap (λ es. any_of above (take f.result es)) same ∙ f.ensures.none_before))

pub loop-i-preserved : goal.loop-i-preserved
loop-i-preserved g c =
    let h = c.self.invariant.0 in
    let m = c.loop-i.invariant in
    let w = c.within.ensures in
    elim c.if-not-within.branch [
      | then-not-within v ↦ moved_is (ap (λ s. s.trues) v.self-inside-is) (ap (λ s. s.falses) v.self-inside-is) v.filled-is
          (moved_kept _ h m c.loop-i-test.true (ap not (sym w ∙ v.if-not-within.true)))
      | else-not-within v ↦ moved_is (ap (λ s. s.trues) v.self-inside-is) (ap (λ s. s.falses) v.self-inside-is) v.filled-is
          (moved_gone _ h m c.loop-i-test.true (ap not (sym w ∙ v.if-not-within.false)))
    ]

pub invariant_of-self : goal.invariant_of-self
invariant_of-self g c = (held (moved_end _ c.self.invariant.0 c.loop-i.invariant c.loop-i-test.false), c.self.invariant.1)

pub returns : goal.returns
returns g c =
    holds_entries (moved_end _ c.self.invariant.0 c.loop-i.invariant c.loop-i-test.false)
    ∙ ap (λ es. left es c.args.candidate) c.self.view_is
