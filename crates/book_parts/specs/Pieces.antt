-- The contents of an area as they are copied, piece by piece: neighbouring cells of a column whose contents become the
-- same wherever they go are one piece.
use Rattle.std.specs.Prelude.{◌≡◌, ◌≤◌, ℕ, List, [], ◌∷◌, if◌then◌else◌}
use Rattle.std.specs.List.{flat_map}
use Rattle.calc_addr.specs.Places.{Place, Rectangle}
use Rattle.calc_model.specs.Books.{Book, content_at, is_held}
use Rattle.calc_model.specs.CellEdits.{CellEntries, copied_entry, moved_content}
use Rattle.cell_runs.specs.CellLists.{cells_of}
use Rattle.cell_columns.specs.Filled.{moved_entries}
use Rattle.moved_forms.specs.Alike.{in_row}
use Rattle.book_parts.specs.declared.pieces.Piece.{Piece}

-- From that row of the cell's column comes to each place what comes to it from the cell.
abbrev pub GoesAlike : Book → Place → ℕ → Type 0
GoesAlike book cell row = (to : Place) → moved_content (in_row cell row) to (content_at book (in_row cell row)) ≡ moved_content cell to (content_at book cell)

-- so it does from each row, from the cell's down to the last
abbrev pub GoAlike : Book → Place → ℕ → Type 0
GoAlike book cell last = (row : ℕ) → cell.row ≤ row → row ≤ last → GoesAlike book cell row

-- the entries of a piece, and of several
abbrev pub entries_of : Piece → CellEntries
entries_of piece = if is_held piece.content then moved_entries piece.from piece.content (cells_of piece.rows) else []

abbrev pub all_entries : List Piece → CellEntries
all_entries pieces = flat_map entries_of pieces

-- what a cell holds, if it holds anything, as it is copied, and what several hold
abbrev pub copied_cell : Book → Rectangle → Place → Place → CellEntries
copied_cell book area to q = if is_held (content_at book q) then copied_entry area to (q, content_at book q) ∷ [] else []

abbrev pub copied_cells : Book → Rectangle → Place → List Place → CellEntries
copied_cells book area to places = flat_map (copied_cell book area to) places
