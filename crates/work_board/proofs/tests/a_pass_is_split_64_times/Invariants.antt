use Rattle.std.proofs.Common.{◌≡◌, ◌+◌}
use Rattle.work_board.specs.Passes.{view_of, IsPassOf}
use Rattle.work_board.proofs.tests.a_pass_is_split_64_times.Given as goal

abbrev pub invariant-loop-time : goal.invariant-loop-time
invariant-loop-time l = record {
  own : IsPassOf l.board l.first;
  rights : (view_of l.first).rights + l._time ≡ 64;
  passes : (view_of l.first).passes ≡ l._time + 1;
}
