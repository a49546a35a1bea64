-- `cases::Bytes::decode` meets its contract: the bytes lie within the room. Assumes nothing.
use Rattle.std.proofs.Common.{◌≤◌}
use Rattle.cases.proofs.Bytes.decode.Given as goal

abbrev pub invariant-loop-digits : goal.invariant-loop-digits
invariant-loop-digits l = l.size ≤ 8192
