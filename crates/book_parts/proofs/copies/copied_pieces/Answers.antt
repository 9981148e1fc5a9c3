use Rattle.std.proofs.Common.{ℕ, ◌+◌, ◌≤◌, List, ◌++◌, append-nil, sym, ap, ◌∙◌, arith}
use Rattle.std.proofs.lemmas.Grind.{flat_map-append}
use Rattle.std.proofs.lemmas.List.{append_assoc}
use Rattle.calc_addr.specs.Places.{Place, Rectangle, column_places}
use Rattle.calc_model.specs.CellEdits.{CellEntries}
use Rattle.cell_columns.specs.Cells.{cells_only}
use Rattle.book_parts.specs.Pieces.{all_entries, copied_cell, copied_cells}
use Rattle.book_parts.proofs.Filled.{column_first, columns_from, no_columns}
use Rattle.book_parts.proofs.HeldCells.{copied_within}
use Rattle.book_parts.proofs.copies.copied_pieces.Goals as goal

pub loop-col-preserved : goal.loop-col-preserved
loop-col-preserved c =
    let area : Rectangle = c.args.area in
    let col : ℕ = c.loop-col.col in
    let copied : List Place → CellEntries = copied_cells (cells_only c.args.cells.now) area c.args.to in
    let here : List Place = column_places area.sheet col area.first_row area.last_row in
    let behind : List Place = columns_from area.sheet area.first_row area.last_row (col + 1) area.last_col in
    let order : col ≤ area.last_col = omega (arith, c.loop-col-test.true, ap (λ (a : Rectangle). a.last_col) c.area.view_is) in
    ap (λ es. es ++ copied behind) c.in_ok-push_column.ensures
    ∙ append_assoc (all_entries c.loop-col.pieces.items) (copied here) (copied behind)
    ∙ ap (λ es. all_entries c.loop-col.pieces.items ++ es) (sym (flat_map-append (copied_cell (cells_only c.args.cells.now) area c.args.to) here behind))
    ∙ ap (λ ps. all_entries c.loop-col.pieces.items ++ copied ps) (sym (column_first area.sheet area.first_row area.last_row col area.last_col order))
    ∙ c.loop-col.invariant

pub returns : goal.returns
returns c =
    let area : Rectangle = c.args.area in
    let copied : List Place → CellEntries = copied_cells (cells_only c.args.cells.now) area c.args.to in
    let past : area.last_col + 1 ≤ c.loop-col.col = omega (arith, c.loop-col-test.false, ap (λ (a : Rectangle). a.last_col) c.area.view_is) in
    sym (append-nil (all_entries c.loop-col.pieces.items))
    ∙ ap (λ ps. all_entries c.loop-col.pieces.items ++ copied ps) (sym (no_columns area.sheet area.first_row area.last_row c.loop-col.col area.last_col past))
    ∙ c.loop-col.invariant
    ∙ copied_within c.args.cells.now c.are_book.ensures.cells_in_order c.are_book.ensures.cells_held area c.args.to
