use Rattle.std.proofs.Common.{◌-◌, length}
use Rattle.dirty_spread.specs.Finding.{IsPassed}
use Rattle.dirty_spread.proofs.circles.has_one.Given as goal

abbrev pub invariant-loop-place : goal.invariant-loop-place
invariant-loop-place l = IsPassed l.cells l.circles l.area l.place

abbrev pub decreases-loop-place : goal.decreases-loop-place
decreases-loop-place l = length l.circles - l.place
