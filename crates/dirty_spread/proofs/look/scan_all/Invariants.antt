use Rattle.std.proofs.Common.{◌≤◌, ◌-◌, length}
use Rattle.dirty_spread.specs.Levels.{IsScan}
use Rattle.dirty_spread.proofs.look.scan_all.Given as goal

abbrev pub invariant-loop-place : goal.invariant-loop-place
invariant-loop-place l = record {
  from : l.from ≤ l.place;
  scan : IsScan l.cells l.levels l.area l.from l.least l.place l.greatest;
}

abbrev pub decreases-loop-place : goal.decreases-loop-place
decreases-loop-place l = length l.cells - l.place
