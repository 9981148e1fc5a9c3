use Rattle.std.proofs.Common.{get_or, arith}
use Rattle.work_board.proofs.DrawSteps.{cut_drawn}
use Rattle.work_board.proofs.draw_pass.DrawBoard.split.Goals as goal

pub split_seat-seat-requires : goal.split_seat-seat-requires
split_seat-seat-requires c =
    let board = c.args.self.now in
    let pass = c.args.pass.now in
    (c.requires.own.0, rw board.word (omega arith), λ s r at. (r.0, cut_drawn board.table.shared.key (get_or s.words 0 0) s.views r.1 pass.seat.id pass.seat.me.0 at pass.unspent c.requires.right))
