-- The cycle {number}: the last digit is written after those of the tenth. Assumes nothing.
use Rattle.std.proofs.Common.{arith}
use Rattle.plan.proofs.laws.text.TextBytes.{decimal_few, few_higher, wrote_low, wrote_high}
use Rattle.plan.proofs.text.Writer.+number.Goals.{then-value-ge10, else-value-ge10}
use Rattle.plan.proofs.text.Writer.+number.Goals as goal

pub bytes-requires : goal.bytes-requires
bytes-requires t c = elim c.if-value-ge10.branch [
  | then-value-ge10 w ↦
      let few = few_higher c.args.value (omega arith) in
      rw w.self-is (omega (arith, few, w.number.ensures.wrote.place, w.number.ensures.wrote.long))
  | else-value-ge10 w ↦ rw w.self-is (omega arith)
]

pub returns-clause-wrote : goal.returns-clause-wrote
returns-clause-wrote t c = elim c.if-value-ge10.branch [
  | then-value-ge10 w ↦ wrote_high w.if-value-ge10.true w.number.ensures.wrote (rw w.self-is at c.bytes.ensures)
  | else-value-ge10 w ↦ wrote_low (omega (arith, w.if-value-ge10.false)) (rw w.self-is at c.bytes.ensures)
]

pub returns-clause-upper_bound : goal.returns-clause-upper_bound
returns-clause-upper_bound t c = omega (arith, decimal_few c.args.value (omega arith), (returns-clause-wrote t c).place)
