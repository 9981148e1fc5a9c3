use Rattle.std.proofs.Common.{nat_lt, length, sym, ap, ◌∙◌}
use Rattle.calc_addr.specs.declared.cell.TheConstants.{LAST_COL, LAST_ROW}
use Rattle.calc_model.specs.CellEdits.{within_area}
use Rattle.book_parts.proofs.PushedOut.{by_count}
use Rattle.book_parts.proofs.rows.is_pushed_out.Goals as goal

pub returns : goal.returns
returns c =
    ap (nat_lt 0)
    (c.count_within.ensures
    ∙ ap (λ n. length (within_area c.args.cells.now (record { sheet = c.args.rows.sheet; first_col = 1; last_col = LAST_COL; first_row = n; last_row = LAST_ROW }))) c.max.ensures)
    ∙ sym (by_count c.args.rows.sheet c.args.rows.place c.args.rows.count c.args.cells.now c.are_book.ensures.cells_held)
