use Rattle.dirty_spread.specs.Levels.{AreUnderWay}
use Rattle.dirty_spread.proofs.by_parts.level_run.Given as goal

abbrev pub invariant-loop-part : goal.invariant-loop-part
invariant-loop-part g l = AreUnderWay (g.H.Dependents.areas l.hub) l.stale l.circles l.levels
