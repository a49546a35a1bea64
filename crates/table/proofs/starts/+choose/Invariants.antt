-- The cycle {choose}: the measure is the number of alternatives left. The invariant: the literals that are left give the whole, and the
-- piece has none of them. Assumes nothing.
use mathlib.Core.Path.{◌≡◌}
use Prim.Native.Nat.{◌-◌}
use lib.ListN.{length, drop}
use Rattle.sheet.specs.Literals as L
use Rattle.sheet.specs.inner.Masks as K
use Rattle.sheet.specs.Lists.{keep}
use Rattle.table.specs.Start.{falsify}
use Rattle.table.proofs.laws.slots.Putting.{Going}
use Rattle.table.proofs.laws.starts.FalsifiedAlternatives.{Free, choices_of}
use Rattle.table.proofs.starts.+choose.Given as goal

abbrev pub decreases-choose : goal.decreases-choose
decreases-choose l = length l.alts.now - l.at

abbrev pub invariant-loop-l : goal.invariant-loop-l
invariant-loop-l l = record {
  going : Going 128 (keep L.consistent (falsify (drop l.at l.alts) l.piece)) l.initial.to
      (keep L.consistent (choices_of (drop l.after l.alts) l.rest l.piece)) l.to;
  least : l.l ≡ K.next l.rest 0;
  free : Free l.rest l.piece;
}

abbrev pub decreases-loop-l : goal.decreases-loop-l
decreases-loop-l l = length (L.members l.rest 0)
