-- Contents that are put into neighbouring rows of a column.
use Rattle.std.specs.Prelude.{◌≡◌, ◌≤◌, ℕ, List, map}
use Rattle.calc_addr.specs.Places.{IsPlace, Place, column_places}
use Rattle.calc_model.specs.declared.content.Content.{Content}
use Rattle.calc_model.specs.CellEdits.{CellEntries, moved_content}
use Rattle.formula_code.specs.Codes.{Codes}
use Rattle.block_column.specs.declared.slot.Slot.{Slot}
use Rattle.cell_columns.specs.Cells.{column_number, content_of}
use Rattle.cell_columns.specs.Sheets.{IsFit}

-- a content for each of some cells
abbrev pub entries_at : (Place → Content) → List Place → CellEntries
entries_at content places = map (λ q. (q, content q)) places

-- a content, moved from a cell, in each of some cells
abbrev pub moved_entries : Place → Content → List Place → CellEntries
moved_entries from content places = entries_at (λ q. moved_content from q content) places

-- the slot in each row of the cell's column from one row to another
abbrev pub repeated : Codes → Place → ℕ → ℕ → Slot → CellEntries
repeated codes cell first last x = entries_at (λ q. content_of codes q x) (column_places cell.sheet cell.col first last)

-- the slot can be put into each of these rows
abbrev pub FitsRows : Codes → Place → ℕ → ℕ → Slot → Type 0
FitsRows codes cell first last x = (q : Place) → IsPlace q → column_number q ≡ column_number cell → first ≤ q.row → q.row ≤ last → IsFit codes q x
