use Rattle.std.proofs.Common.{◌≡◌, ◌≤◌, ◌+◌, length}
use Rattle.calc_model.specs.CellEdits.{with_entries}
use Rattle.book_parts.specs.GeneratedColumns.{entries_of, first_of}
use Rattle.book_parts.proofs.generated.put_column.Given as goal

-- the entries of the rows that are left make of the cells what all make of the first ones
abbrev pub invariant-loop-row : goal.invariant-loop-row
invariant-loop-row l =
    record {
      so_far : with_entries l.cells (entries_of l.column l.row l.rows) ≡ with_entries l.initial.cells (entries_of l.column (first_of l.column) l.rows);
      longer : length l.cells + 1 ≤ length l.initial.cells + l.row;
    }
