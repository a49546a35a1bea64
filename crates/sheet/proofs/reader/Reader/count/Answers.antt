-- `sheet::reader::Reader::count` meets its contract. Assumes nothing.
use Prim.Native.Nat.{◌≤◌}
use Rattle.sheet.proofs.laws.format.ByteRules.{count_0}
use Rattle.sheet.proofs.laws.reader.ReadParts.{byte_early, byte_judged, byte_passed}
use Rattle.sheet.proofs.reader.Reader.count.Goals as goal

pub returns-in_err-k-clause-reads : goal.returns-in_err-k-clause-reads
returns-in_err-k-clause-reads c = byte_early _ _ c.in_err-k.ensures c.from_residual.ensures.1

pub returns-clause-reads : goal.returns-clause-reads
returns-clause-reads c = byte_judged _ _ c.in_ok-k.ensures c.count_fault.ensures c.judged.ensures.bytes c.judged.ensures.gives

pub returns-clause-most : goal.returns-clause-most
returns-clause-most c = byte_passed (λ k. k ≤ c.args.high) _ c.judged.ensures.fine c.count_fault.ensures (λ e. ((count_0 _ _ _).0 e).1)
