use Rattle.std.proofs.Common.{sym, ◌∙◌, refl, arith}
use Rattle.work_board.proofs.DrawSteps.{draws}
use Rattle.work_board.proofs.draw_pass.DrawBoard.draw.Goals as goal

pub fetch_add-next-requires : goal.fetch_add-next-requires
fetch_add-next-requires c =
    let board = c.args.self.now in
    let pass = c.args.pass.now in (
      c.requires.own.0,
      rw board.word (omega arith),
      draws board.table.shared.key pass.seat.id pass.seat.me.0 (c.requires.own.1 ∙ sym board.told) pass.unspent board.table.shared.table_id.slots pass.seat.me refl c.requires.open_,
    )
