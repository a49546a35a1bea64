-- `sheet::reader::Reader::number` meets its contract. Assumes nothing.
use Prim.Native.Nat.{◌<◌}
use Rattle.sheet.proofs.laws.format.ByteRules.{number_0}
use Rattle.sheet.proofs.laws.reader.ReadParts.{byte_early, byte_judged, byte_passed}
use Rattle.sheet.proofs.reader.Reader.number.Goals as goal

pub returns-in_err-b-clause-reads : goal.returns-in_err-b-clause-reads
returns-in_err-b-clause-reads c = byte_early _ _ c.in_err-b.ensures c.from_residual.ensures.1

pub returns-clause-reads : goal.returns-clause-reads
returns-clause-reads c = byte_judged _ _ c.in_ok-b.ensures c.number_fault.ensures c.judged.ensures.bytes c.judged.ensures.gives

pub returns-clause-below : goal.returns-clause-below
returns-clause-below c = byte_passed (λ b. b < c.args.m) _ c.judged.ensures.fine c.number_fault.ensures (λ e. (number_0 _ _).0 e)
