use Rattle.std.proofs.Common.{◌+◌, ◌-◌}
use Rattle.dirty_spread.specs.Levels.{IsColumnScan}
use Rattle.dirty_spread.proofs.look.scan_column.Given as goal

abbrev pub invariant-loop-place : goal.invariant-loop-place
invariant-loop-place l = IsColumnScan l.cells l.levels l.area l.first l.last l.least l.place l.greatest

abbrev pub decreases-loop-place : goal.decreases-loop-place
decreases-loop-place l = (l.last + 1) - l.place
