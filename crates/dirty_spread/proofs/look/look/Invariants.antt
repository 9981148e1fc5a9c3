use Rattle.std.proofs.Common.{◌-◌, length}
use Rattle.dirty_spread.specs.Waves.{has}
use Rattle.dirty_spread.specs.Levels.{IsLooked}
use Rattle.dirty_spread.proofs.look.look.Given as goal

abbrev pub invariant-loop-cursor : goal.invariant-loop-cursor
invariant-loop-cursor l = IsLooked l.cells (has l.circles) l.areas l.levels l.cursor

abbrev pub decreases-loop-cursor : goal.decreases-loop-cursor
decreases-loop-cursor l = length l.areas - l.cursor.area
