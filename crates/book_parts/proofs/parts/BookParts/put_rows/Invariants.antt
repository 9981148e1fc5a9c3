use Rattle.std.proofs.Common.{◌≡◌, ◌≤◌, ◌+◌, ◌-◌, length}
use Rattle.calc_addr.specs.Places.{column_places}
use Rattle.calc_model.specs.declared.limits.TheConstants.{MOST_CELLS}
use Rattle.calc_model.specs.Books.{IsBook}
use Rattle.calc_model.specs.CellEdits.{with_entries}
use Rattle.cell_columns.specs.Filled.{moved_entries}
use Rattle.book_parts.proofs.parts.BookParts.put_rows.Given as goal

-- the rows that are left make of the cells what all make of the first ones
abbrev pub invariant-loop-row : goal.invariant-loop-row
invariant-loop-row l =
    record {
      from : l.fn.rows.first ≤ l.row;
      to : l.row ≤ l.fn.rows.last + 1;
      so_far : with_entries l.self.cells (moved_entries l.fn.from l.fn.content (column_places l.fn.rows.sheet l.fn.rows.col l.row l.fn.rows.last)) ≡ with_entries l.initial.self.cells (moved_entries l.fn.from l.fn.content (column_places l.fn.rows.sheet l.fn.rows.col l.fn.rows.first l.fn.rows.last));
      room : length l.self.cells + (l.fn.rows.last + 1 - l.row) ≤ MOST_CELLS;
      names : l.self.names ≡ l.initial.self.names;
      book : IsBook l.self;
    }

abbrev pub decreases-loop-row : goal.decreases-loop-row
decreases-loop-row l = l.fn.rows.last + 1 - l.row
