-- the reports so far, and those of the cells that are left
use Rattle.std.proofs.Common.{◌≡◌, ◌++◌}
use Rattle.calc_addr.specs.Places.{places}
use Rattle.calc_watch.specs.Reports.{changes}
use Rattle.calc_watch.proofs.known.changes.Given as goal

abbrev pub invariant-loop-cell : goal.invariant-loop-cell
invariant-loop-cell g l = l.reports.items ++ changes (g.V.Values.values l.values) l.cell-iterator l.rest ≡ changes (g.V.Values.values l.values) (places l.fn.area) l.fn.known
