use Rattle.work_board.proofs.MarkSteps.{join_marked}
use Rattle.work_board.proofs.mark_pass.MarkBoard.join.Goals as goal

pub join_seat-requires : goal.join_seat-requires
join_seat-requires c =
    let board = c.args.self.now in
    let into = c.args.into.now in
    let other = c.args.other in (
      c.requires.own.0,
      c.requires.other_own.0,
      other.bare,
      board.some,
      λ s r at apart there. join_marked board.table.shared.key s.words s.views r into.seat.id into.seat.me.0 at into.unspent other.seat.id other.seat.me.0 there,
    )
