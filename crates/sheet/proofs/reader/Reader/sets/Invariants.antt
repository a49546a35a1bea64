-- `sheet::reader::Reader::sets` meets its contract. The invariant: the sets before i are read and laid after their count. Assumes nothing.
use Rattle.std.proofs.Common.{◌≡◌, get_or, drop}
use Rattle.sheet.specs.Format.{list_of, literals}
use Rattle.sheet.specs.inner.Packed.{sets_at}
use Rattle.sheet.proofs.laws.reader.ReadLoops.{Turns}
use Rattle.sheet.proofs.reader.Reader.sets.Given as goal

abbrev pub invariant-loop-i : goal.invariant-loop-i
invariant-loop-i l = record {
  count : get_or l.item 0 0 ≡ l.k;
  turns :
      let one = literals l.n.count 1 l.widest in
      Turns (list_of l.least 8 one) l.fn.self one l.k l.i (sets_at l.i (drop 1 l.item)) l.self;
}
