use Rattle.std.proofs.Common.{subst}
use Rattle.work_board.specs.Rules.{IsDrawBoard}
use Rattle.work_board.specs.Views.{IsDrawEnd}
use Rattle.work_board.proofs.Gathering.{gathers_all}
use Rattle.work_board.proofs.DrawSteps.{ends}
use Rattle.work_board.proofs.draw_pass.DrawBoard.close.Goals as goal

pub returns : goal.returns
returns c =
    let board = c.args.self in
    let pass = c.args.pass in
    let last = c.close_with.ensures.values.2 in
    let rule = subst (λ k. IsDrawBoard k last.0.words last.0.views) board.told last.1.0 in
    let end : IsDrawEnd board.units pass.seat.me.0 = ends board.units pass.seat.id pass.seat.me.0 c.requires.own.1 pass.unspent c.requires.joined last.0.words last.0.views rule last.1.1 in
    record { drawn = end; gathered = gathers_all board.units pass.seat.me.0 end }
