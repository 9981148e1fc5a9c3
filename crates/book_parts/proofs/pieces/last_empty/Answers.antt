use Rattle.std.proofs.Common.{◌+◌, ◌-◌, ap, arith}
use Rattle.calc_addr.specs.Places.{Place}
use Rattle.cell_columns.specs.Cells.{cells_only}
use Rattle.book_parts.proofs.Alike.{empty_alike}
use Rattle.book_parts.proofs.pieces.last_empty.Goals as goal

pub returns-clause-alike : goal.returns-clause-alike
returns-clause-alike c =
    empty_alike (cells_only c.args.cells.now) c.args.cell c.empty_rows-rows.result (c.cell.inside.row + (c.empty_rows-rows.result - 1)) c.empty_rows-rows.ensures.empty
    (omega (arith, c.if-rows-eq0.false, ap (λ (q : Place). q.row) c.cell.view_is))
