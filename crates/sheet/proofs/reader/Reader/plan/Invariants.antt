-- `sheet::reader::Reader::plan` meets its contract. The invariant: the numbers so far are read, each in its slot. Assumes nothing.
use Rattle.std.proofs.Common.{◌≡◌, length, take}
use Rattle.sheet.specs.Form.{judged}
use Rattle.sheet.specs.Format.{number_fault, plan}
use Rattle.sheet.proofs.laws.reader.ReadLoops.{Turns}
use Rattle.sheet.proofs.reader.Reader.plan.Given as goal

abbrev pub invariant-loop-slot : goal.invariant-loop-slot
invariant-loop-slot l = record {
  long : length l.slot-items ≡ l.count;
  all : l.slot-index-end ≡ l.count;
  turns : Turns (plan l.m) l.fn.self (judged (number_fault l.m)) l.count l.slot-index (take l.slot-index l.slot-items) l.self;
}
