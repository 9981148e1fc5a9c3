-- References of formulas: an area, how it was spelled, and which parts were marked.
use Rattle.std.specs.Prelude.{◌≡◌, false, if◌then◌else◌}
use Rattle.calc_addr.specs.declared.cell.TheConstants.{LAST_COL, LAST_ROW}
use Rattle.calc_addr.specs.Places.{Rectangle, IsRectangle, Place}
use Rattle.calc_addr.specs.declared.reference.Span.{Span}
use Rattle.calc_addr.specs.declared.reference.Span.TheVariants.{One, Cells, Columns, Rows}
use Rattle.calc_addr.specs.declared.reference.Marks.{Marks}

pub record Reference : Type 0 where
  pub area : Rectangle
  pub span : Span
  pub marks : Marks

-- one cell, with equal marks at both ends
pub record IsOne (a : Rectangle) (m : Marks) : Type 0 where
  pub one_col : a.first_col ≡ a.last_col
  pub one_row : a.first_row ≡ a.last_row
  pub col_marks : m.first_col ≡ m.last_col
  pub row_marks : m.first_row ≡ m.last_row

-- all rows, without marks
pub record AreColumns (a : Rectangle) (m : Marks) : Type 0 where
  pub from_top : a.first_row ≡ 1
  pub to_end : a.last_row ≡ LAST_ROW
  pub first_unmarked : m.first_row ≡ false
  pub last_unmarked : m.last_row ≡ false

-- all columns, without marks
pub record AreRows (a : Rectangle) (m : Marks) : Type 0 where
  pub from_left : a.first_col ≡ 1
  pub to_end : a.last_col ≡ LAST_COL
  pub first_unmarked : m.first_col ≡ false
  pub last_unmarked : m.last_col ≡ false

-- what each spelling says of the area and of the marks of its ends
abbrev pub IsSpanned : Span → Rectangle → Marks → Type 0
IsSpanned One a m = IsOne a m
IsSpanned Cells a m = Unit {0}
IsSpanned Columns a m = AreColumns a m
IsSpanned Rows a m = AreRows a m

pub record IsReference (r : Reference) : Type 0 where
  pub spanned : IsSpanned r.span r.area r.marks
  -- without a written sheet, 0 stands for the sheet of the formula's cell
  pub own_sheet : r.marks.sheet ≡ false → r.area.sheet ≡ 0

-- the reference's area for a formula at home
abbrev pub here : Reference → Place → Rectangle
here r home = if r.marks.sheet then r.area else record r.area { sheet = home.sheet }

-- a reference that a formula can have
pub record IsValidReference (r : Reference) : Type 0 where
  pub lies : IsRectangle r.area
  pub spelled : IsReference r
