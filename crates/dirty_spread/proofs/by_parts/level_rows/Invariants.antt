use Rattle.dirty_spread.specs.Levels.{AreUnderWay}
use Rattle.dirty_spread.proofs.by_parts.level_rows.Given as goal

abbrev pub invariant-loop-step : goal.invariant-loop-step
invariant-loop-step g l = AreUnderWay (g.H.Dependents.areas l.hub) l.stale l.circles l.levels
