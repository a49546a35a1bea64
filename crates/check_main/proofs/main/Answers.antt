-- `check_main::main` is safe and ends: the text lies within its room. Assumes nothing.
use mathlib.Core.Path.{sym}
use lib.Seq.{length-take-le}
use Rattle.plan.proofs.laws.text.Reports.{report_within}
use Rattle.check_main.proofs.main.Goals as goal

pub slice_bounds-text-end : goal.slice_bounds-text-end
slice_bounds-text-end c =
    let w = c.report-k in
    report_within _ _ _ _ w.ensures.value w.ensures.out_after

pub slice_bounds-write_all-end : goal.slice_bounds-write_all-end
slice_bounds-write_all-end c =
    let w = c.report-k in
    sym (length-take-le w.result w.new.out (report_within _ _ _ _ w.ensures.value w.ensures.out_after))
