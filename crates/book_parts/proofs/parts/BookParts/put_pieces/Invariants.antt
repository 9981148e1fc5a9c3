use Rattle.std.proofs.Common.{◌≡◌, ◌≤◌, ◌+◌, length, drop}
use Rattle.calc_model.specs.declared.limits.TheConstants.{MOST_CELLS}
use Rattle.calc_model.specs.Books.{IsBook}
use Rattle.calc_model.specs.CellEdits.{with_entries}
use Rattle.book_parts.specs.Pieces.{all_entries}
use Rattle.book_parts.proofs.parts.BookParts.put_pieces.Given as goal

-- the pieces that are left make of the cells what all make of the first ones
abbrev pub invariant-loop-piece : goal.invariant-loop-piece
invariant-loop-piece l =
    record {
      so_far : with_entries l.self.cells (all_entries (drop l.piece-index l.fn.pieces)) ≡ with_entries l.initial.self.cells (all_entries l.fn.pieces);
      room : length l.self.cells + length (all_entries (drop l.piece-index l.fn.pieces)) ≤ MOST_CELLS;
      names : l.self.names ≡ l.initial.self.names;
      book : IsBook l.self;
    }
