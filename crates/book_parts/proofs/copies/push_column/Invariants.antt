use Rattle.std.proofs.Common.{◌≡◌, ◌≤◌, ◌+◌, ◌-◌, ◌++◌}
use Rattle.calc_addr.specs.Places.{column_places}
use Rattle.cell_columns.specs.Cells.{cells_only}
use Rattle.book_parts.specs.Pieces.{all_entries, copied_cells}
use Rattle.book_parts.proofs.copies.push_column.Given as goal

-- with the rows that are left come the same entries as with all behind the first pieces
abbrev pub invariant-loop-row : goal.invariant-loop-row
invariant-loop-row l =
    record {
      from : l.fn.area.first_row ≤ l.row;
      to : l.row ≤ l.fn.area.last_row + 1;
      so_far : all_entries l.pieces.items ++ copied_cells (cells_only l.fn.cells) l.fn.area l.fn.to (column_places l.fn.area.sheet l.fn.col l.row l.fn.area.last_row) ≡ all_entries l.fn.pieces.items ++ copied_cells (cells_only l.fn.cells) l.fn.area l.fn.to (column_places l.fn.area.sheet l.fn.col l.fn.area.first_row l.fn.area.last_row);
    }

abbrev pub decreases-loop-row : goal.decreases-loop-row
decreases-loop-row l = l.fn.area.last_row + 1 - l.row
