-- `sheet::reader::number_fault` meets its contract. Assumes nothing.
use mathlib.Core.Path.{sym, ap}
use Rattle.sheet.specs.inner.Reads.{fault_in}
use Rattle.sheet.proofs.laws.format.ByteRules.{number_0, number_7}
use Rattle.sheet.proofs.reader.number_fault.Goals as goal

pub returns-then-m-b : goal.returns-then-m-b
returns-then-m-b c = sym (ap fault_in ((number_7 _ _).1 c.if-m-b.true))

pub returns : goal.returns
returns c = sym (ap fault_in ((number_0 _ _).1 c.if-m-b.false))
