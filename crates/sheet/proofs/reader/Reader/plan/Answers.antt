-- `sheet::reader::Reader::plan` meets its contract. Assumes nothing.
use mathlib.Core.Path.{◌≡◌, refl, sym, ap, ap₂, ◌∙◌}
use mathlib.Core.List.{List, ◌++◌}
use Prim.Native.Nat.{ℕ, ◌≤◌, ◌<◌}
use native.Mathlib.Omega.{arith}
use lib.ListN.{length, drop, replicate, length-set}
use lib.Seq.{take_at}
use Rattle.std.proofs.Common.{length-take-le}
use Rattle.std.proofs.lemmas.Grind.{common_steps}
use Rattle.std.proofs.lemmas.List.{take_more_set}
use Rattle.sheet.specs.declared.Plan.{Plan}
use Rattle.sheet.specs.Format.{list_of, plan}
use Rattle.sheet.specs.inner.Decoded.{plan_of, plan_in}
use Rattle.sheet.proofs.laws.base.Padding.{pad_nil, pad_rest}
use Rattle.sheet.proofs.laws.reader.ReadParts.{left_all, left_after, left_stop}
use Rattle.sheet.proofs.laws.reader.ReadLoops.{turns_begin, turns_more, turns_stop, turns_end}
use Rattle.sheet.proofs.reader.Reader.plan.Goals as goal

-- k numbers in their slots, and 0 in the others
module _ (k : ℕ) (xs : List ℕ) (long : length xs ≡ k) where
  held : Plan
  held = record { count = k; numbers = xs ++ drop k (replicate 64 0) }

  held_in : plan_in held ≡ xs
  unfolding held plan_in
  held_in = take_at xs (drop k (replicate 64 0)) k long

  held_so : k ≤ 64 → held ≡ plan_of (plan_in held)
  unfolding held plan_of
  held_so h =
      ap₂ (λ (n : ℕ) (ys : List ℕ). record { count = n; numbers = ys }) (sym long)
      (ap₂ (λ (n : ℕ) (zs : List ℕ). xs ++ drop n zs) (sym long) (sym (pad_nil 64 0)) ∙ pad_rest 64 0 xs (omega (arith, long)))
      ∙ ap plan_of (sym held_in)

pub returns-in_err-count-clause-reads : goal.returns-in_err-count-clause-reads
unfolding plan list_of
returns-in_err-count-clause-reads c = left_stop _ (left_all _ _) c.count.ensures.reads c.in_err-count.was c.from_residual.ensures.1

pub loop-slot-init : goal.loop-slot-init
unfolding plan list_of
loop-slot-init c = record {
  long = length-take-le _ (replicate 64 0) (omega (arith, c.in_ok-count.ensures.most));
  all = length-take-le _ (replicate 64 0) (omega (arith, c.in_ok-count.ensures.most));
  turns = turns_begin (left_after _ (left_all _ _) c.count.ensures.reads c.in_ok-count.was) refl;
}

pub returns-in_err-slot-clause-reads : goal.returns-in_err-slot-clause-reads
returns-in_err-slot-clause-reads c =
    let v = c.loop-slot in
    turns_stop v.invariant.turns (omega (arith, c.loop-slot-test.true, v.invariant.all)) c.number.ensures.reads c.in_err-slot.was
    c.from_residual-in_err-slot.ensures.1

pub loop-slot-preserved : goal.loop-slot-preserved
loop-slot-preserved c =
    let v = c.loop-slot in
    let below : v.slot-index < c.in_ok-count.count = omega (arith, c.loop-slot-test.true, v.invariant.all) in record {
      long = simp length-set v.invariant.long;
      all = v.invariant.all;
      turns =
          turns_more v.invariant.turns below c.number.ensures.reads c.in_ok-slot.was
          (take_more_set v.slot-items v.slot-index c.in_ok-slot.field-0 (omega (arith, below, v.invariant.long)));
    }

pub returns-clause-reads : goal.returns-clause-reads
unfolding held
returns-clause-reads c =
    let v = c.loop-slot in
    let end : c.in_ok-count.count ≤ v.slot-index = omega (arith, c.loop-slot-test.false, v.invariant.all) in
    turns_end v.invariant.turns end
    (grind (arith, common_steps, v.invariant.long, end) ∙ sym (held_in _ v.slot-items v.invariant.long))

pub returns-clause-padded : goal.returns-clause-padded
unfolding held
returns-clause-padded c = held_so _ c.loop-slot.slot-items c.loop-slot.invariant.long c.in_ok-count.ensures.most
