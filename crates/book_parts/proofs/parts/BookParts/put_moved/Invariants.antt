use Rattle.std.proofs.Common.{◌≡◌, ◌≤◌, ◌+◌, length}
use Rattle.calc_model.specs.declared.limits.TheConstants.{MOST_CELLS}
use Rattle.calc_model.specs.Books.{IsBook}
use Rattle.calc_model.specs.CellEdits.{with_entries}
use Rattle.calc_addr.specs.Places.{places}
use Rattle.cell_columns.specs.Filled.{moved_entries}
use Rattle.book_parts.proofs.Filled.{columns_from}
use Rattle.book_parts.proofs.parts.BookParts.put_moved.Given as goal

-- the columns that are left make of the cells what all make of the first ones
abbrev pub invariant-loop-col : goal.invariant-loop-col
invariant-loop-col l =
    record {
      so_far : with_entries l.self.cells (moved_entries l.fn.from l.fn.content (columns_from l.fn.area.sheet l.fn.area.first_row l.fn.area.last_row l.col l.fn.area.last_col)) ≡ with_entries l.initial.self.cells (moved_entries l.fn.from l.fn.content (places l.fn.area));
      room : length l.self.cells + length (columns_from l.fn.area.sheet l.fn.area.first_row l.fn.area.last_row l.col l.fn.area.last_col) ≤ MOST_CELLS;
      names : l.self.names ≡ l.initial.self.names;
      book : IsBook l.self;
    }
