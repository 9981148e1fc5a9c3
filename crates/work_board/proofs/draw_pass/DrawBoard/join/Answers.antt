use Rattle.std.proofs.Common.{get_or, arith}
use Rattle.work_board.proofs.DrawSteps.{join_drawn}
use Rattle.work_board.proofs.draw_pass.DrawBoard.join.Goals as goal

pub join_seat-requires : goal.join_seat-requires
join_seat-requires c =
    let board = c.args.self.now in
    let into = c.args.into.now in
    let other = c.args.other in (
      c.requires.own.0,
      c.requires.other_own.0,
      other.bare,
      rw board.word (omega arith),
      λ s r at apart there. (r.0, join_drawn board.table.shared.key (get_or s.words 0 0) s.views r.1 into.seat.id into.seat.me.0 at into.unspent other.seat.id other.seat.me.0 apart there),
    )
