use Rattle.work_board.proofs.MarkSteps.{cut_marked}
use Rattle.work_board.proofs.mark_pass.MarkBoard.split.Goals as goal

pub split_seat-seat-requires : goal.split_seat-seat-requires
split_seat-seat-requires c =
    let board = c.args.self.now in
    let pass = c.args.pass.now in
    (c.requires.own.0, board.some, λ s r at. cut_marked board.table.shared.key s.words s.views r pass.seat.id pass.seat.me.0 at pass.unspent c.requires.right)
