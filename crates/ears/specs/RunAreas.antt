-- The areas that the rows of a run read by one reference, and which of them meet an area.
use Rattle.std.specs.Prelude.{ℕ, Bool, false, ◌&&◌, ◌==◌, nat_le, Option, None, Some}
use Rattle.std.specs.Bool.{beq}
use Rattle.calc_addr.specs.Places.{Rectangle, IsRectangle}
use Rattle.calc_model.specs.Ears.{ReadArea, area_at, end_at}
use Rattle.ears.specs.declared.run_areas.Steps.{Steps}

-- whether two areas have a cell in common
abbrev pub meets : Rectangle → Rectangle → Bool
meets a b =
    (a.sheet == b.sheet)
    && (nat_le a.first_col b.last_col && nat_le b.first_col a.last_col)
    && (nat_le a.first_row b.last_row && nat_le b.first_row a.last_row)

abbrev pub is_same_area : Rectangle → Rectangle → Bool
is_same_area a b =
    (a.sheet == b.sheet)
    && ((a.first_col == b.first_col) && (a.last_col == b.last_col))
    && ((a.first_row == b.first_row) && (a.last_row == b.last_row))

-- The areas of the first row and of the row so many rows below it lie in the sheet with their ends in order, and so
-- do those of the rows between them.
pub record LieInSheet (steps : ℕ) (ear : ReadArea) : Type 0 where
  pub first : IsRectangle ear.area
  pub last : IsRectangle (area_at ear steps)

-- the smallest area that has those of the first row, of the row so many rows below it, and of the rows between
abbrev pub hull : ReadArea → ℕ → Rectangle
hull ear steps = record ear.area { last_row = end_at ear.last_moves ear.area.last_row steps }

-- the ear of the rows from the one on that lies so many rows below the first one
abbrev pub ear_below : ReadArea → ℕ → ReadArea
ear_below ear steps = record ear { area = area_at ear steps }

-- whether the ear is that of the rows from the one on that lies so many rows below the first one of the other
abbrev pub is_below : ReadArea → ReadArea → ℕ → Bool
is_below next ear step =
    beq next.first_moves ear.first_moves
    && beq next.last_moves ear.last_moves
    && (next.area.sheet == ear.area.sheet)
    && ((next.area.first_col == ear.area.first_col) && (next.area.last_col == ear.area.last_col))
    && (next.area.first_row == end_at ear.first_moves ear.area.first_row step)
    && (next.area.last_row == end_at ear.last_moves ear.area.last_row step)

-- whether the row so many rows below the first one is one of these, if any
abbrev pub has_step : Option Steps → ℕ → Bool
has_step None step = false
has_step (Some rows) step = nat_le rows.first step && nat_le step rows.last
