-- `table::starts::lay_others` meets its contract. The invariant: the others below j are there. Assumes nothing.
use Rattle.table.proofs.laws.starts.OtherAlternatives.{laying_one, laying_none, laying_end}
use Rattle.table.proofs.starts.lay_others.Goals as goal
use Rattle.table.proofs.starts.lay_others.Goals.{then-j-i, else-j-i}

pub loop-j-preserved : goal.loop-j-preserved
loop-j-preserved c =
    let n = c.len-j-end.ensures.value in
    let w = c.loop-j.invariant in
    elim c.if-j-i.branch [
      | then-j-i v ↦ rw (v.rest-is, v.push.ensures) (laying_one _ n w c.loop-j-test.true v.at.ensures v.if-j-i.true)
      | else-j-i v ↦ rw v.rest-is (laying_none _ n w c.loop-j-test.true v.if-j-i.false)
    ]

pub returns : goal.returns
returns c = laying_end _ c.len-j-end.ensures.value c.loop-j.invariant c.loop-j-test.false
