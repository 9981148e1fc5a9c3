use Rattle.std.proofs.Common.{◌-◌, ◌≡◌, ◌≤◌}
use Rattle.area_listeners.specs.Spots.{level_from, level_of}
use Rattle.area_listeners.proofs.spot.level_of.Given as goal

abbrev pub invariant-loop-level : goal.invariant-loop-level
invariant-loop-level l = (level_from (10 - l.level) l.level l.rows ≡ level_of l.rows) × (l.level ≤ 10)

abbrev pub decreases-loop-level : goal.decreases-loop-level
decreases-loop-level l = 10 - l.level
