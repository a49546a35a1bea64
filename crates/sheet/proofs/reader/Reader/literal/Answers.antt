-- `sheet::reader::Reader::literal` meets its contract. Assumes nothing.
use Prim.Native.Nat.{◌*◌, ◌<◌}
use Rattle.sheet.proofs.laws.format.ByteRules.{literal_0}
use Rattle.sheet.proofs.laws.reader.ReadParts.{byte_early, byte_judged, byte_passed}
use Rattle.sheet.proofs.reader.Reader.literal.Goals as goal

pub returns-in_err-b-clause-reads : goal.returns-in_err-b-clause-reads
returns-in_err-b-clause-reads c = byte_early _ _ c.in_err-b.ensures c.from_residual.ensures.1

pub returns-clause-reads : goal.returns-clause-reads
returns-clause-reads c = byte_judged _ _ c.in_ok-b.ensures c.literal_fault.ensures c.judged.ensures.bytes c.judged.ensures.gives

pub returns-clause-below : goal.returns-clause-below
returns-clause-below c =
    byte_passed (λ b. b < 2 * c.args.n.count) _ c.judged.ensures.fine c.literal_fault.ensures (λ e. ((literal_0 _ _ _).0 e).1)
