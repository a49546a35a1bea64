-- `table::picture_bytes::write_picture` meets its contract. The invariant: the clauses below i are written. Assumes nothing.
use mathlib.Core.Path.{◌∙◌}
use native.Mathlib.Omega.{arith}
use Rattle.table.proofs.laws.pictures.MaskBytes.{wrote_start, wrote_step, wrote_end}
use Rattle.table.proofs.picture_bytes.write_picture.Goals as goal

pub loop-i-init : goal.loop-i-init
loop-i-init c =
    wrote_start _ _ c.len-count.ensures (c.copy_from_slice.ensures.after ∙ c.to_be_bytes.ensures)

pub loop-i-preserved : goal.loop-i-preserved
loop-i-preserved c =
    wrote_step _ _ c.loop-i.invariant (omega arith) c.at-clause.ensures c.write_mask.ensures
    c.write_mask-in-loop-i.ensures

pub returns : goal.returns
returns c = wrote_end _ _ (omega arith) c.loop-i.invariant
