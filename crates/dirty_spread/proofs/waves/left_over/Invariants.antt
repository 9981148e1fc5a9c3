use Rattle.dirty_spread.specs.LevelLists.{IsOfLevel}
use Rattle.dirty_spread.specs.Waves.{AreAll}
use Rattle.dirty_spread.proofs.waves.left_over.Given as goal

abbrev pub invariant-loop-place : goal.invariant-loop-place
invariant-loop-place l = AreAll (IsOfLevel l.stale l.levels 2 l.place) l.cells
