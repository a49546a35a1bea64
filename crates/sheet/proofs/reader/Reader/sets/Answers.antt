-- `sheet::reader::Reader::sets` meets its contract. Assumes nothing.
use mathlib.Core.Path.{refl, ap, ◌∙◌}
use native.Mathlib.Omega.{arith}
use Prim.Native.Nat.{ℕ}
use lib.ListN.{drop, length-set}
use Rattle.std.proofs.lemmas.Grind.{common_steps}
use Rattle.sheet.specs.Format.{list_of}
use Rattle.sheet.specs.inner.Packed.{sets_at, sets_in}
use Rattle.sheet.proofs.laws.reader.ReadParts.{left_all, left_after, left_stop}
use Rattle.sheet.proofs.laws.reader.ReadLoops.{turns_begin, turns_more, turns_stop, turns_end}
use Rattle.sheet.proofs.laws.reader.PackedParts.{sets_next}
use Rattle.sheet.proofs.reader.Reader.sets.Goals as goal

pub returns-in_err-k : goal.returns-in_err-k
unfolding list_of
returns-in_err-k c = left_stop _ (left_all _ _) c.count.ensures.reads c.in_err-k.was c.from_residual.ensures.1

pub loop-i-init : goal.loop-i-init
unfolding list_of sets_at
loop-i-init c = record {
  count = grind (arith, common_steps);
  turns = turns_begin (left_after _ (left_all _ _) c.count.ensures.reads c.in_ok-k.was) refl;
}

pub returns-in_err-a : goal.returns-in_err-a
returns-in_err-a c =
    turns_stop c.loop-i.invariant.turns c.loop-i-test.true c.literals.ensures c.in_err-a.was c.from_residual-in_err-a.ensures.1

pub loop-i-preserved : goal.loop-i-preserved
loop-i-preserved c =
    let v = c.loop-i in
    let h = sets_next v.i v.item c.in_ok-a.a (omega (arith, c.in_ok-k.ensures.most, length-set {A = ℕ})) in record {
      count = h.1 ∙ v.invariant.count;
      turns = turns_more v.invariant.turns c.loop-i-test.true c.literals.ensures c.in_ok-a.was h.0;
    }

pub returns : goal.returns
unfolding sets_in
returns c =
    let v = c.loop-i in
    turns_end v.invariant.turns c.loop-i-test.false (ap (λ n. sets_at n (drop 1 v.item)) (omega (arith, v.invariant.count)))
