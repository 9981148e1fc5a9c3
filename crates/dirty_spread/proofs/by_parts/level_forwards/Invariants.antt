use Rattle.std.proofs.Common.{◌≡◌, ◌≤◌, length}
use Rattle.dirty_spread.specs.ByParts.{cells_before}
use Rattle.dirty_spread.specs.Levels.{AreUnderWay}
use Rattle.dirty_spread.proofs.by_parts.level_forwards.Given as goal

abbrev pub invariant-loop-turn : goal.invariant-loop-turn
invariant-loop-turn g l = record {
  within : l.turn ≤ length l.runs;
  place : l.place ≡ cells_before l.runs l.turn;
  under_way : AreUnderWay (g.H.Dependents.areas l.hub) l.stale l.circles l.levels;
}
