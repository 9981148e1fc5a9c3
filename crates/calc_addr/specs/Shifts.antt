-- What becomes of an area, and of a reference to it, when rows of its sheet are inserted or deleted.
-- The first and the last row of the area go with the sheet's rows. An area that has all rows stays,
-- however it was spelled and also where all rows are deleted. Marks say nothing here.
use Rattle.std.specs.Prelude.{ℕ, Bool, ◌+◌, ◌-◌, ◌&&◌, ◌==◌, nat_le, nat_lt, min, if◌then◌else◌, Option, Some, None, option_map}
use Rattle.calc_addr.specs.declared.cell.TheConstants.{LAST_ROW}
use Rattle.calc_addr.specs.Places.{Place, Rectangle}
use Rattle.calc_addr.specs.References.{Reference}

abbrev pub has_all_rows : Rectangle → Bool
has_all_rows a = (a.first_row == 1) && (a.last_row == LAST_ROW)

abbrev pub with_rows : Rectangle → ℕ → ℕ → Rectangle
with_rows a first last = record a { first_row = first; last_row = last }

-- so many rows are inserted at the place: the rows from there on move down
abbrev pub row_after_insertion : ℕ → ℕ → ℕ → ℕ
row_after_insertion place count row = if nat_le place row then row + count else row

-- the area is deleted where its first row leaves the sheet, and cut off at the last row
abbrev pub area_after_insertion : ℕ → ℕ → Rectangle → Option Rectangle
area_after_insertion place count a =
    let first = row_after_insertion place count a.first_row in
    let last = row_after_insertion place count a.last_row in
    if has_all_rows a then Some a
    else (if nat_le first LAST_ROW then Some (with_rows a first (min last LAST_ROW)) else None)

-- so many rows from the place on are deleted: those after them move up
abbrev pub is_deleted : ℕ → ℕ → ℕ → Bool
is_deleted place count row = nat_le place row && nat_lt row (place + count)

abbrev pub row_after_deletion : ℕ → ℕ → ℕ → ℕ
row_after_deletion place count row = if nat_lt row place then row else row - count

-- the area is deleted with all its rows; a deleted end goes to the nearest row of the area that stays
abbrev pub area_after_deletion : ℕ → ℕ → Rectangle → Option Rectangle
area_after_deletion place count a =
    let first = if is_deleted place count a.first_row then place else row_after_deletion place count a.first_row in
    let last = if is_deleted place count a.last_row then place - 1 else row_after_deletion place count a.last_row in
    if has_all_rows a then Some a
    else (if is_deleted place count a.first_row && is_deleted place count a.last_row then None else Some (with_rows a first last))

-- a reference on that sheet goes with its area
abbrev pub on_area : Reference → Rectangle → Reference
on_area r a = record r { area = a }

abbrev pub reference_after_insertion : ℕ → ℕ → Reference → Option Reference
reference_after_insertion place count r = option_map (on_area r) (area_after_insertion place count r.area)

abbrev pub reference_after_deletion : ℕ → ℕ → Reference → Option Reference
reference_after_deletion place count r = option_map (on_area r) (area_after_deletion place count r.area)

-- the cell at the row where the insertion or the deletion puts it
abbrev pub place_after_insertion : ℕ → ℕ → Place → Place
place_after_insertion place count p = record p { row = row_after_insertion place count p.row }

abbrev pub place_after_deletion : ℕ → ℕ → Place → Place
place_after_deletion place count p = record p { row = row_after_deletion place count p.row }
