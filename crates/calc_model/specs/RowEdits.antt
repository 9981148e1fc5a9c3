-- The cells of a book after rows of a sheet are inserted or deleted: those of the sheet go with their rows, and in
-- every formula of the book each reference to the sheet goes as its area does.
use Rattle.std.specs.Prelude.{ℕ, ◌+◌, ◌==◌, ◌&&◌, not, nat_le, nat_lt, Bool, false, Option, Some, None, map}
use Rattle.std.specs.List.{filter, list_any}
use Rattle.calc_addr.specs.declared.cell.TheConstants.{LAST_ROW, LAST_SHEET}
use Rattle.calc_addr.specs.Places.{Place, Rectangle}
use Rattle.calc_addr.specs.Shifts.{area_after_deletion, area_after_insertion, is_deleted}
use Rattle.calc_model.specs.declared.tree.Tree.{Tree}
use Rattle.calc_model.specs.declared.content.Content.{Content}
use Rattle.calc_model.specs.CellEdits.{CellEntries, with_tree}
use Rattle.calc_model.specs.Homes.{home_after_deletion, home_after_insertion}
use Rattle.calc_model.specs.TreeShifts.{tree_after_deletion, tree_after_insertion}

-- so many rows of a sheet from a place on, one at least
abbrev pub are_rows : ℕ → ℕ → ℕ → Bool
are_rows sheet place count = nat_le sheet LAST_SHEET && nat_le 1 place && nat_le 1 count && nat_le (place + count) (LAST_ROW + 1)

-- the entry at the cell to which it goes, with another tree where it is a formula
abbrev pub shifted_entry : (Place → Place) → (Place → Tree → Tree) → Place × Content → Place × Content
shifted_entry goes change entry = (goes entry.0, with_tree (change entry.0) entry.1)

-- so many rows of a sheet are inserted at the place
unfoldable pub cells_after_insertion : ℕ → ℕ → ℕ → CellEntries → CellEntries
cells_after_insertion sheet place count cells =
    map (shifted_entry (home_after_insertion sheet place count) (λ home. tree_after_insertion home sheet place count)) cells

-- a cell that isn't empty leaves the sheet
abbrev pub is_pushed_out : ℕ → ℕ → ℕ → CellEntries → Bool
is_pushed_out sheet place count cells = list_any (λ entry. nat_lt LAST_ROW (home_after_insertion sheet place count entry.0).row) cells

-- the cell lies in one of so many rows of a sheet from the place on
abbrev pub is_in_rows : ℕ → ℕ → ℕ → Place → Bool
is_in_rows sheet place count q = (q.sheet == sheet) && is_deleted place count q.row

-- so many rows of a sheet from the place on are deleted
unfoldable pub cells_after_deletion : ℕ → ℕ → ℕ → CellEntries → CellEntries
cells_after_deletion sheet place count cells =
    map (shifted_entry (home_after_deletion sheet place count) (λ home. tree_after_deletion home sheet place count))
    (filter (λ entry. not (is_in_rows sheet place count entry.0)) cells)

-- what became of the area is that area
abbrev pub has_rows_of : Rectangle → Option Rectangle → Bool
has_rows_of area None = false
has_rows_of area (Some to) = (to.first_row == area.first_row) && (to.last_row == area.last_row)

-- whether an area of any sheet is changed or deleted where those of one sheet go
abbrev pub is_changed : ℕ → (Rectangle → Option Rectangle) → Rectangle → Bool
is_changed sheet change area = (area.sheet == sheet) && not (has_rows_of area (change area))

abbrev pub is_changed_by_insertion : ℕ → ℕ → ℕ → Rectangle → Bool
is_changed_by_insertion sheet place count = is_changed sheet (area_after_insertion place count)

abbrev pub is_changed_by_deletion : ℕ → ℕ → ℕ → Rectangle → Bool
is_changed_by_deletion sheet place count = is_changed sheet (area_after_deletion place count)
