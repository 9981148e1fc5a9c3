use Rattle.std.proofs.Common.{take}
use Rattle.std.specs.List.{All}
use Rattle.dirty_spread.specs.Levels.{IsCircular, IsClosed}
use Rattle.dirty_spread.proofs.leveling.close.Given as goal

abbrev pub invariant-loop-frame : goal.invariant-loop-frame
invariant-loop-frame l = record {
  closed : IsClosed l.initial.levels l.levels;
  all : All (IsCircular l.levels) (take l.frame-index l.path);
}
