-- `table::entries::Entries::last_of_four` meets its contract: the last of the four tests that passes says the place. Assumes nothing.
use mathlib.Core.Path.{sym}
use Rattle.sheet.specs.Literals.{within}
use Rattle.table.proofs.laws.slots.LastWithin.{shown, last_3, last_2, last_1, last_0}
use Rattle.table.proofs.entries.Entries.last_of_four.Goals as goal

pub returns-then-within : goal.returns-then-within
returns-then-within c =
    sym (last_3 (λ e. within e c.args.candidate) c.args.self.now c.args.end c.requires.four c.requires.within
    (shown _ c.within.ensures c.at.ensures c.if-within.true))

pub returns-then-within-2 : goal.returns-then-within-2
returns-then-within-2 c =
    sym (last_2 (λ e. within e c.args.candidate) c.args.self.now c.args.end c.requires.four c.requires.within
    (shown _ c.within.ensures c.at.ensures c.if-within.false) (shown _ c.within-2.ensures c.at-2.ensures c.if-within-2.true))

pub returns-then-within-3 : goal.returns-then-within-3
returns-then-within-3 c =
    sym (last_1 (λ e. within e c.args.candidate) c.args.self.now c.args.end c.requires.four c.requires.within
    (shown _ c.within.ensures c.at.ensures c.if-within.false) (shown _ c.within-2.ensures c.at-2.ensures c.if-within-2.false)
    (shown _ c.within-3.ensures c.at-3.ensures c.if-within-3.true))

pub returns : goal.returns
returns c =
    sym (last_0 (λ e. within e c.args.candidate) c.args.self.now c.args.end c.requires.four c.requires.within
    (shown _ c.within.ensures c.at.ensures c.if-within.false) (shown _ c.within-2.ensures c.at-2.ensures c.if-within-2.false)
    (shown _ c.within-3.ensures c.at-3.ensures c.if-within-3.false) c.requires.some)
