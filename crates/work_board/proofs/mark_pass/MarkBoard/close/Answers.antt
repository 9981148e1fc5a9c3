use Rattle.std.proofs.Common.{subst}
use Rattle.work_board.specs.Rules.{IsMarkBoard}
use Rattle.work_board.proofs.MarkSteps.{ends}
use Rattle.work_board.proofs.mark_pass.MarkBoard.close.Goals as goal

pub returns : goal.returns
returns c =
    let board = c.args.self in
    let pass = c.args.pass in
    let last = c.close_with.ensures.values.2 in
    let rule = subst (λ k. IsMarkBoard k last.0.words last.0.views) board.told last.1.0 in
    record { marked = ends board.bits pass.seat.id pass.seat.me.0 c.requires.own.1 pass.unspent c.requires.joined last.0.words last.0.views rule last.1.1 }
