-- One record more is written.
use Rattle.std.proofs.Common.{◌++◌, take, ap, sym, subst, ◌∙◌}
use Rattle.calc_watch.specs.Reports.{described, report_line}
use Rattle.csv_records.specs.Records.{record_text}
use Rattle.csv_records.specs.Writers.{Holds}
use Rattle.calc_watch.proofs.Lines.{flat_map_more}
use Rattle.calc_watch.proofs.pad.lines_of.Goals as goal

pub loop-report-preserved : goal.loop-report-preserved
unfolding described
loop-report-preserved c =
    let before = described (take c.loop-report.report-index c.args.reports.now) in
    let wrote = c.in_ok-write_record.ensures before c.loop-report.invariant in
    let line = ap (λ fields. before ++ record_text fields) c.in_ok-fill_record.ensures in
    let item = ap (λ report. before ++ report_line report) c.report-item.is in
    let more = flat_map_more report_line c.args.reports.now c.loop-report.report-index c.report-item.result c.loop-report-test.true in
    subst (Holds c.write_record.new.writer) (line ∙ item ∙ sym more) wrote
