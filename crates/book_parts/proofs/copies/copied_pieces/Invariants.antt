use Rattle.std.proofs.Common.{◌≡◌, ◌++◌}
use Rattle.calc_addr.specs.Places.{places}
use Rattle.cell_columns.specs.Cells.{cells_only}
use Rattle.book_parts.specs.Pieces.{all_entries, copied_cells}
use Rattle.book_parts.proofs.Filled.{columns_from}
use Rattle.book_parts.proofs.copies.copied_pieces.Given as goal

-- with the columns that are left come the entries of all
abbrev pub invariant-loop-col : goal.invariant-loop-col
invariant-loop-col l = all_entries l.pieces.items ++ copied_cells (cells_only l.fn.cells) l.fn.area l.fn.to (columns_from l.fn.area.sheet l.fn.area.first_row l.fn.area.last_row l.col l.fn.area.last_col) ≡ copied_cells (cells_only l.fn.cells) l.fn.area l.fn.to (places l.fn.area)
