-- `sheet::reader::Reader::effects` meets its contract. Assumes nothing.
use mathlib.Core.Path.{refl, ap, ◌∙◌}
use native.Mathlib.Omega.{arith}
use Rattle.sheet.specs.inner.Packed.{effects_at}
use Rattle.sheet.proofs.laws.reader.ReadParts.{left_all}
use Rattle.sheet.proofs.laws.reader.ReadLoops.{turns_begin, turns_more, turns_stop, turns_end}
use Rattle.sheet.proofs.laws.reader.PackedParts.{effects_more}
use Rattle.sheet.proofs.reader.Reader.effects.Goals as goal

pub loop-i-init : goal.loop-i-init
unfolding effects_at
loop-i-init c = turns_begin (left_all _ _) refl

pub returns-in_err-e : goal.returns-in_err-e
returns-in_err-e c = turns_stop c.loop-i.invariant c.loop-i-test.true c.effect.ensures c.in_err-e.was c.from_residual.ensures.1

pub loop-i-preserved : goal.loop-i-preserved
loop-i-preserved c =
    let v = c.loop-i in
    turns_more v.invariant c.loop-i-test.true c.effect.ensures c.in_ok-e.was
    (ap (effects_at _) c.write_effect.ensures ∙ effects_more v.i v.effects _ (omega arith))

pub returns : goal.returns
returns c = turns_end c.loop-i.invariant c.loop-i-test.false (ap (λ n. effects_at n c.loop-i.effects) (omega arith))
