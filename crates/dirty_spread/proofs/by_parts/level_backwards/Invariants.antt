use Rattle.std.proofs.Common.{◌≡◌, ◌≤◌, length}
use Rattle.dirty_spread.specs.ByParts.{cells_before}
use Rattle.dirty_spread.specs.Levels.{AreUnderWay}
use Rattle.dirty_spread.proofs.by_parts.level_backwards.Given as goal

abbrev pub invariant-loop-left : goal.invariant-loop-left
invariant-loop-left g l = record {
  within : l.left ≤ length l.runs;
  place : l.place ≡ cells_before l.runs l.left;
  under_way : AreUnderWay (g.H.Dependents.areas l.hub) l.stale l.circles l.levels;
}

abbrev pub decreases-loop-left : goal.decreases-loop-left
decreases-loop-left g l = l.left
