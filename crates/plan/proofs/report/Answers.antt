-- `report` meets its contract. Assumes nothing.
use Rattle.plan.proofs.laws.text.Reports.{few_rows, reports, no_report}
use Rattle.plan.proofs.report.Goals as goal

pub returns-then-out-lt-REPORT_LENGTH : goal.returns-then-out-lt-REPORT_LENGTH
returns-then-out-lt-REPORT_LENGTH c =
    let both = no_report c.args.bytes.now _ c.if-out-lt-REPORT_LENGTH.true in record { value = both.0; out_after = both.1 }

pub write_text-requires-clause-rows_le_most_places : goal.write_text-requires-clause-rows_le_most_places
write_text-requires-clause-rows_le_most_places c = few_rows _ _ c.course_into-verdict.ensures

pub returns : goal.returns
returns c =
    let both = reports _ _ c.course_into-verdict.ensures _ _ _ c.if-out-lt-REPORT_LENGTH.false c.write_text.ensures in record
    { value = both.0; out_after = both.1 }
