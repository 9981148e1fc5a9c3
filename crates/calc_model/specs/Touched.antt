-- Which cells an edit touches, changed or not, of the book after it, and where a cell stood before it.
use Rattle.std.specs.Prelude.{ℕ, ◌+◌, ◌-◌, ◌==◌, ◌&&◌, ◌||◌, nat_le, Bool, true, false, List, Option, Some, None, if◌then◌else◌}
use Rattle.std.specs.Option.{option_map_or}
use Rattle.std.specs.List.{list_any}
use Rattle.std.specs.Ordering.{eq_by_cmp}
use Rattle.calc_addr.specs.declared.cell.TheConstants.{LAST_COL, LAST_ROW}
use Rattle.calc_addr.specs.Places.{Place, Rectangle, covers, place_cmp}
use Rattle.calc_model.specs.declared.edit.Edit.{Edit}
use Rattle.calc_model.specs.declared.edit.Edit.TheVariants.{Set, Clear, Copy, Fill, InsertRows, DeleteRows, Name, Unname, Make}
use Rattle.calc_model.specs.Books.{Book, content_at}
use Rattle.calc_model.specs.CellEdits.{area_at}
use Rattle.calc_model.specs.Reads.{reads}
use Rattle.calc_model.specs.RowEdits.{is_changed_by_deletion, is_changed_by_insertion}
use Rattle.calc_model.specs.UsedNames.{uses_name}

-- some cells of all sheets, as a test
abbrev pub CellSet : Type 0
CellSet = Place → Bool

-- the cell lies on that sheet, in that row or below
abbrev pub is_from_row : ℕ → ℕ → CellSet
is_from_row sheet row q = (q.sheet == sheet) && nat_le row q.row

-- Where a cell of the book after an edit stood before it, if it stood anywhere: cells move with inserted and
-- deleted rows.
abbrev pub origin : Edit → Place → Option Place
origin (InsertRows sheet place count) q =
    if is_from_row sheet (place + count) q then Some (record q { row = q.row - count })
    else (if is_from_row sheet place q then None else Some q)
origin (DeleteRows sheet place count) q =
    if is_from_row sheet place q then Some (record q { row = q.row + count }) else Some q
origin _ q = Some q

-- the cells at the places to which an edit moves them
abbrev pub moved : Edit → CellSet → CellSet
moved edit cells q = option_map_or cells (origin edit q) false

-- the cells of a sheet from a row on
abbrev pub rows_from : ℕ → ℕ → Rectangle
rows_from sheet row = record { sheet = sheet; first_col = 1; last_col = LAST_COL; first_row = row; last_row = LAST_ROW }

-- the cells that read one of some areas, by a reference or by a name
abbrev pub reads_any : Book → (Rectangle → Bool) → CellSet
reads_any book areas q = list_any areas (reads book q)

-- the cells whose formula uses the name
abbrev pub users : Book → List ℕ → CellSet
users book name q = uses_name name (content_at book q)

-- The cells that an edit touches, from the book before it and the one after it: those where it puts or removes a
-- content; with rows those of the sheet from the place on, and each whose formula is changed or uses a name whose area
-- is, since both read an area that is changed or deleted, and cells before the place stay where they are; with a name
-- those that use it; with the generated book all.
abbrev pub touched : Book → Edit → Book → CellSet
touched before (Set cell content) after q = eq_by_cmp place_cmp cell q
touched before (Clear area) after q = covers area q
touched before (Copy area to) after q = covers (area_at area to) q
touched before (Fill from area) after q = covers area q
touched before (InsertRows sheet place count) after q =
    covers (rows_from sheet place) q || reads_any before (is_changed_by_insertion sheet place count) q
touched before (DeleteRows sheet place count) after q =
    covers (rows_from sheet place) q || reads_any before (is_changed_by_deletion sheet place count) q
touched before (Name name area) after q = users after name q
touched before (Unname name) after q = users after name q
touched before (Make start rows) after q = true
