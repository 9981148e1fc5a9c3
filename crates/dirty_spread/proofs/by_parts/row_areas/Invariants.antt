use Rattle.std.proofs.Common.{◌≡◌, take}
use Rattle.dirty_spread.specs.ByParts.{areas_below}
use Rattle.dirty_spread.proofs.by_parts.row_areas.Given as goal

abbrev pub invariant-loop-ear : goal.invariant-loop-ear
invariant-loop-ear l = l.areas.items ≡ areas_below (take l.ear-index l.ears) l.step
