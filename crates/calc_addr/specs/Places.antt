-- Sheets, cells and areas. Sixteen sheets with the numbers 0 to 15, each of 1,024 columns and
-- 1,048,576 rows, which are counted from 1.
use Rattle.std.specs.Prelude.{◌≡◌, ℕ, Bool, true, ◌+◌, ◌-◌, ◌*◌, ◌≤◌, ◌&&◌, ◌==◌, nat_le, nat_lt, if◌then◌else◌, List, [], ◌++◌, map, Option, None, Some}
use Rattle.std.specs.List.{flat_map, range_with_len}
use Rattle.std.specs.Ordering.{nat_cmp, ordering_then}
use Rattle.std.specs.declared.cmp.Ordering.{Ordering}
use Rattle.std.specs.declared.cmp.Ordering.TheVariants.{Less}
use Rattle.calc_addr.specs.declared.cell.TheConstants.{LAST_SHEET, LAST_COL, LAST_ROW}

-- where a cell lies
pub record Place : Type 0 where
  pub sheet : ℕ
  pub col : ℕ
  pub row : ℕ

-- the place is one of a sheet
pub record IsPlace (p : Place) : Type 0 where
  pub sheet_in : p.sheet ≤ LAST_SHEET
  pub col_from : 1 ≤ p.col
  pub col_to : p.col ≤ LAST_COL
  pub row_from : 1 ≤ p.row
  pub row_to : p.row ≤ LAST_ROW

-- the order of cells: by sheet, then column, then row
abbrev pub place_cmp : Place → Place → Ordering
place_cmp a b = ordering_then (nat_cmp a.sheet b.sheet) (ordering_then (nat_cmp a.col b.col) (nat_cmp a.row b.row))

-- p comes before q in that order
abbrev pub IsBefore : Place → Place → Type 0
IsBefore p q = place_cmp p q ≡ Less

-- a rectangle of one sheet, with both ends in it
pub record Rectangle : Type 0 where
  pub sheet : ℕ
  pub first_col : ℕ
  pub last_col : ℕ
  pub first_row : ℕ
  pub last_row : ℕ

-- the ends are in order, and lie in the sheet
pub record IsRectangle (a : Rectangle) : Type 0 where
  pub sheet_in : a.sheet ≤ LAST_SHEET
  pub cols_from : 1 ≤ a.first_col
  pub cols_in_order : a.first_col ≤ a.last_col
  pub cols_to : a.last_col ≤ LAST_COL
  pub rows_from : 1 ≤ a.first_row
  pub rows_in_order : a.first_row ≤ a.last_row
  pub rows_to : a.last_row ≤ LAST_ROW

-- whether the rectangle has the cell
abbrev pub covers : Rectangle → Place → Bool
covers a p =
    (p.sheet == a.sheet)
    && nat_le a.first_col p.col && nat_le p.col a.last_col
    && nat_le a.first_row p.row && nat_le p.row a.last_row

-- how many cells the rectangle has
abbrev pub cell_count : Rectangle → ℕ
cell_count a = (a.last_col + 1 - a.first_col) * (a.last_row + 1 - a.first_row)

-- the numbers from first to last
abbrev pub from_to : ℕ → ℕ → List ℕ
from_to first last = range_with_len first (last + 1 - first)

-- the cells of a rectangle in area order: column by column, downwards
abbrev pub places : Rectangle → List Place
places a =
    flat_map (λ col. map (λ row. record { sheet = a.sheet; col = col; row = row }) (from_to a.first_row a.last_row))
    (from_to a.first_col a.last_col)

-- the cells of one column between two rows
abbrev pub column_places : ℕ → ℕ → ℕ → ℕ → List Place
column_places sheet col first last = map (λ row. record { sheet = sheet; col = col; row = row }) (from_to first last)

-- the cells of a rectangle from one of them on, in area order
abbrev pub places_from : Rectangle → Option Place → List Place
places_from a None = []
places_from a (Some p) =
    column_places a.sheet p.col p.row a.last_row
    ++ flat_map (λ col. column_places a.sheet col a.first_row a.last_row) (from_to (p.col + 1) a.last_col)

-- the first cell of a rectangle in area order
abbrev pub corner : Rectangle → Place
corner a = record { sheet = a.sheet; col = a.first_col; row = a.first_row }

-- the cell of the rectangle behind one of its cells, if there is one
abbrev pub place_after : Rectangle → Place → Option Place
place_after a p =
    if nat_lt p.row a.last_row then Some (record p { row = p.row + 1 })
    else (if nat_lt p.col a.last_col then Some (record p { col = p.col + 1; row = a.first_row }) else None)

-- a cell of the rectangle, if there is one
abbrev pub IsInArea : Rectangle → Option Place → Type 0
IsInArea a None = Unit {0}
IsInArea a (Some p) = covers a p ≡ true

-- one row of a rectangle
abbrev pub row_at : Rectangle → ℕ → Rectangle
row_at a row = record a { first_row = row; last_row = row }

-- the rows of a rectangle, downwards
abbrev pub rows_of : Rectangle → List Rectangle
rows_of a = map (row_at a) (from_to a.first_row a.last_row)

-- the rows of a rectangle, if there is one
abbrev pub rows_from : Option Rectangle → List Rectangle
rows_from None = []
rows_from (Some a) = rows_of a

-- the rectangle without its first row, if it has another
abbrev pub below_first : Rectangle → Option Rectangle
below_first a = if nat_lt a.first_row a.last_row then Some (record a { first_row = a.first_row + 1 }) else None

-- the rectangle of one cell
abbrev pub single : Place → Rectangle
single p = record { sheet = p.sheet; first_col = p.col; last_col = p.col; first_row = p.row; last_row = p.row }

-- neighbouring rows of one column
pub record Rows : Type 0 where
  pub sheet : ℕ
  pub col : ℕ
  pub first : ℕ
  pub last : ℕ

-- the rows are in order, and lie in the sheet
pub record IsRows (r : Rows) : Type 0 where
  pub sheet_in : r.sheet ≤ LAST_SHEET
  pub col_from : 1 ≤ r.col
  pub col_to : r.col ≤ LAST_COL
  pub from : 1 ≤ r.first
  pub in_order : r.first ≤ r.last
  pub to : r.last ≤ LAST_ROW
