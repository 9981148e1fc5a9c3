-- the reports so far were told
use Rattle.std.proofs.Common.{◌≡◌, ◌++◌, take}
use Rattle.calc_watch.proofs.desktop.tell_reports.Given as goal

abbrev pub invariant-loop-report : goal.invariant-loop-report
invariant-loop-report g l = g.W.Watcher.told l.watcher ≡ g.W.Watcher.told l.fn.watcher ++ take l.report-index l.reports
