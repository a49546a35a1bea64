-- `table::picture_bytes::write_picture` meets its contract. The invariant: the clauses below i are written. Assumes nothing.
use Rattle.table.proofs.laws.pictures.MaskBytes.{Wrote}
use Rattle.table.proofs.picture_bytes.write_picture.Given as goal

abbrev pub invariant-loop-i : goal.invariant-loop-i
invariant-loop-i l = Wrote l.clauses l.fn.buffer l.i l.buffer
