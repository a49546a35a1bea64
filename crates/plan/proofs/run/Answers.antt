-- `plan::run` meets its contract: the run by its numbers, and then the rows written into those that are lent. Assumes nothing.
use Rattle.std.proofs.Common.{◌≤◌, ◌++◌, length, drop, sym, ap, ◌∙◌, subst}
use Rattle.plan.specs.declared.Course.{Course}
use Rattle.plan.specs.inner.Course.{course_of}
use Rattle.plan.specs.inner.Rows.{rows_in}
use Rattle.plan.proofs.laws.rows.RowCounts.{course_few, course_rows}
use Rattle.plan.proofs.run.Goals as goal

pub write_rows-requires : goal.write_rows-requires
write_rows-requires c =
    let ys = c.args.rows.now in
    subst (λ (x : Course). (x.counts.count ≤ length ys) × (x.counts.count ≤ 65)) (sym c.course-course.ensures)
    (course_few c.args.bytes.now ys)

pub returns-clause-value : goal.returns-clause-value
unfolding course_of
returns-clause-value c = ap (λ (x : Course). x.ran) c.course-course.ensures

pub returns-clause-rows_after : goal.returns-clause-rows_after
returns-clause-rows_after c =
    let ys = c.args.rows.now in
    c.write_rows.ensures
    ∙ ap (λ (x : Course). rows_in x.counts ++ drop x.counts.count ys) c.course-course.ensures
    ∙ course_rows c.args.bytes.now ys
