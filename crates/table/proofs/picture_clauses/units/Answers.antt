-- `table::picture_clauses::units` meets its contract. The invariant: the literals before l are listed. Assumes nothing.
use Rattle.table.proofs.laws.pictures.UnitClauses.{listed_start, listed_on, listed_less, listed_end}
use Rattle.table.proofs.picture_clauses.units.Goals as goal

pub loop-l-init : goal.loop-l-init
loop-l-init g c = listed_start _ c.requires.empty c.next-l.ensures

pub loop-l-smaller : goal.loop-l-smaller
loop-l-smaller g c = listed_less _ _ _ c.loop-l-test.true c.next-l-in-loop-l.ensures

pub loop-l-preserved : goal.loop-l-preserved
loop-l-preserved g c = listed_on c.loop-l.invariant c.loop-l-test.true c.literal.ensures c.next-l-in-loop-l.ensures c.push.ensures

pub returns : goal.returns
returns g c = listed_end c.loop-l.invariant c.loop-l-test.false
