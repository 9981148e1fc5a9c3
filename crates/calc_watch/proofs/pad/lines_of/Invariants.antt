-- the lines of the reports so far
use Rattle.std.proofs.Common.{take}
use Rattle.calc_watch.specs.Reports.{described}
use Rattle.csv_records.specs.Writers.{Holds}
use Rattle.calc_watch.proofs.pad.lines_of.Given as goal

abbrev pub invariant-loop-report : goal.invariant-loop-report
invariant-loop-report l = Holds l.writer (described (take l.report-index l.reports))
