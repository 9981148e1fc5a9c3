use Rattle.std.proofs.Common.{◌≤◌, ◌-◌}
use Rattle.cell_columns.specs.Cells.{cells_only}
use Rattle.book_parts.specs.Pieces.{GoAlike}
use Rattle.book_parts.proofs.pieces.last_equal.Given as goal

abbrev pub invariant-loop-row : goal.invariant-loop-row
invariant-loop-row l =
    record {
      from : l.fn.cell.row ≤ l.row;
      to : l.row ≤ l.fn.last;
      alike : GoAlike (cells_only l.fn.cells) l.fn.cell l.row;
    }

abbrev pub decreases-loop-row : goal.decreases-loop-row
decreases-loop-row l = l.fn.last - l.row
