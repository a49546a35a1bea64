-- The invariant: the rows below i are written.
use Rattle.std.proofs.Common.{◌≡◌, ◌*◌, ◌++◌, drop}
use Rattle.unit.proofs.RowNumbers.{numbers}
use Rattle.unit.proofs.numbers.write_row_numbers.Given as goal

abbrev pub invariant-loop-i : goal.invariant-loop-i
invariant-loop-i l = l.rows ≡ numbers l.counts l.i ++ drop (3 * l.i) l.initial.rows
