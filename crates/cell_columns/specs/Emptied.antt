-- Cells without those of some rows in neighbouring columns.
use Rattle.std.specs.Prelude.{ℕ, ◌&&◌, nat_le, nat_lt, not, Bool}
use Rattle.std.specs.List.{filter}
use Rattle.calc_addr.specs.Places.{Place}
use Rattle.calc_model.specs.CellEdits.{CellEntries}
use Rattle.cell_columns.specs.Cells.{column_number}

-- the cell lies in a column from one number up to another, and between the first row and the last
abbrev pub lies_in : ℕ → ℕ → ℕ → ℕ → Place → Bool
lies_in from behind first last q =
    nat_le from (column_number q) && nat_lt (column_number q) behind && nat_le first q.row && nat_le q.row last

abbrev pub without_rows : ℕ → ℕ → ℕ → ℕ → CellEntries → CellEntries
without_rows from behind first last cells = filter (λ entry. not (lies_in from behind first last entry.0)) cells
