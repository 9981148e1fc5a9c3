-- A test of the references that a formula can have: the area lies in the sheets with its ends in order, its
-- spelling fits it, and without a written sheet the area's sheet is 0.
use Rattle.std.specs.Prelude.{not, ◌==◌, ◌&&◌, ◌||◌, nat_le, Bool, true, false}
use Rattle.calc_addr.specs.declared.cell.TheConstants.{LAST_SHEET, LAST_COL, LAST_ROW}
use Rattle.calc_addr.specs.Places.{Rectangle}
use Rattle.calc_addr.specs.References.{Reference}
use Rattle.calc_addr.specs.declared.reference.Span.{Span}
use Rattle.calc_addr.specs.declared.reference.Span.TheVariants.{One, Cells, Columns, Rows}
use Rattle.calc_addr.specs.declared.reference.Marks.{Marks}

abbrev pub is_rectangle : Rectangle → Bool
is_rectangle a =
    nat_le a.sheet LAST_SHEET
    && nat_le 1 a.first_col && nat_le a.first_col a.last_col && nat_le a.last_col LAST_COL
    && nat_le 1 a.first_row && nat_le a.first_row a.last_row && nat_le a.last_row LAST_ROW

-- both marked or both unmarked
abbrev pub are_alike : Bool → Bool → Bool
are_alike true other = other
are_alike false other = not other

-- what each spelling says of the area and of the marks of its ends
abbrev pub is_spanned : Span → Rectangle → Marks → Bool
is_spanned One a m =
    (a.first_col == a.last_col) && (a.first_row == a.last_row) && are_alike m.first_col m.last_col && are_alike m.first_row m.last_row
is_spanned Cells a m = true
is_spanned Columns a m = (a.first_row == 1) && (a.last_row == LAST_ROW) && not m.first_row && not m.last_row
is_spanned Rows a m = (a.first_col == 1) && (a.last_col == LAST_COL) && not m.first_col && not m.last_col

-- a reference that a formula can have
unfoldable pub is_valid_reference : Reference → Bool
is_valid_reference r = is_rectangle r.area && is_spanned r.span r.area r.marks && (r.marks.sheet || (r.area.sheet == 0))
