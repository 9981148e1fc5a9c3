use Rattle.dirty_spread.specs.Levels.{AreUnderWay}
use Rattle.dirty_spread.proofs.by_parts.level_cells.Given as goal

abbrev pub invariant-loop-at : goal.invariant-loop-at
invariant-loop-at g l = AreUnderWay (g.H.Dependents.areas l.hub) l.stale l.circles l.levels
