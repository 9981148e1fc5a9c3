-- Columns of all sheets, by their places among them.
use Rattle.std.specs.Prelude.{◌≡◌, ◌≢◌, ◌&&◌, Bool, ℕ, ◌+◌, ◌-◌, ◌*◌, ◌≤◌, List, Option, None, Some, slice_index_or}
use Rattle.std.specs.Option.{option_map, unwrap_or}
use Rattle.calc_addr.specs.declared.cell.TheConstants.{LAST_COL, LAST_SHEET}
use Rattle.calc_addr.specs.Places.{Place}
use Rattle.calc_model.specs.UsedCells.{is_past, is_used}
use Rattle.calc_model.specs.Scalars.{CellValues}
use Rattle.calc_model.specs.declared.value.Value.{Value}
use Rattle.calc_model.specs.declared.value.Value.TheVariants.{Blank}
use Rattle.value_column.specs.ValueRows.{ValueRows, no_values}

-- a column of a sheet
pub record IsColumn (sheet col : ℕ) : Type 0 where
  pub sheet_in : sheet ≤ LAST_SHEET
  pub from : 1 ≤ col
  pub to : col ≤ LAST_COL

abbrev pub column_place : ℕ → ℕ → ℕ
column_place sheet col = sheet * LAST_COL + (col - 1)

-- what is known of a column, if it was ever used
abbrev pub column_in : List (Option ValueRows) → ℕ → ℕ → Option ValueRows
column_in sheets sheet col = slice_index_or sheets (column_place sheet col) None

-- what a row of a column shows
abbrev pub row_value : Option ValueRows → ℕ → Value
row_value None row = Blank
row_value (Some rows) row = slice_index_or rows.values (row - 1) Blank

-- what each cell shows
unfoldable pub cell_values : List (Option ValueRows) → CellValues
cell_values sheets cell = row_value (column_in sheets cell.sheet cell.col) cell.row

-- the values of the column at a place, if it was ever used
abbrev pub shown_at : List (Option ValueRows) → ℕ → Option (List Value)
shown_at sheets p = option_map (λ c. c.values) (slice_index_or sheets p None)

-- the values of the column at a place, blank where it was never used
abbrev pub shown_in : List (Option ValueRows) → ℕ → List Value
shown_in sheets p = unwrap_or (shown_at sheets p) no_values

abbrev pub spare_in : List (Option ValueRows) → ℕ → ℕ
spare_in sheets p = unwrap_or (option_map (λ c. c.spare) (slice_index_or sheets p None)) 0

-- the column at a place is used and has the values, and the others stay
pub record IsSet (old new : List (Option ValueRows)) (place : ℕ) (values : List Value) : Type 0 where
  pub here : shown_at new place ≡ Some values
  pub others : (p : ℕ) → p ≢ place → slice_index_or new p None ≡ slice_index_or old p None

-- the values of the column at a place are edited, if it was ever used, and the others stay
pub record IsEdited (old new : List (Option ValueRows)) (place : ℕ) (edit : List Value → List Value) : Type 0 where
  pub here : shown_at new place ≡ option_map edit (shown_at old place)
  pub others : (p : ℕ) → p ≢ place → slice_index_or new p None ≡ slice_index_or old p None

-- each column shows what it did, and is used where it was
abbrev pub ShowsSame : List (Option ValueRows) → List (Option ValueRows) → Type 0
ShowsSame old new = (p : ℕ) → shown_at new p ≡ shown_at old p

-- the cell shows something and comes behind that one, if there is one
abbrev pub is_sought : CellValues → Option Place → Place → Bool
is_sought values after q = is_used (values q) && is_past after q
