use Rattle.std.proofs.Common.{◌≡◌, ◌-◌, length}
use Rattle.work_board.specs.Passes.{view_of, IsPassOf}
use Rattle.work_board.specs.Views.{nones}
use Rattle.work_board.proofs.tests.square_units.Given as goal

abbrev pub invariant-loop-unit : goal.invariant-loop-unit
invariant-loop-unit l = IsPassOf l.board l.pass × (nones (view_of l.pass) ≡ 0)

abbrev pub decreases-loop-unit : goal.decreases-loop-unit
decreases-loop-unit l = l.board.units - length (view_of l.pass).listed
