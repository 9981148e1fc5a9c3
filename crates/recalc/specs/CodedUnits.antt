-- Units as they are found: rows that have one code, which are longest as far as they may be.
use Rattle.std.specs.Prelude.{◌≡◌, ◌≤◌, ◌<◌, ⊤, ℕ, ◌+◌, ◌-◌, ◌*◌, min, List, [], ◌∷◌, ◌++◌, length, map, Some, slice_index_or}
use Rattle.std.specs.List.{All}
use Rattle.calc_addr.specs.declared.cell.TheConstants.{LAST_COL, LAST_ROW, LAST_SHEET}
use Rattle.calc_addr.specs.Places.{IsRows, Place, Rows, column_places}
use Rattle.cell_runs.specs.CellLists.{all_cells}
use Rattle.formula_code.specs.Coded.{CodeColumns, code_of}
use Rattle.recalc.specs.declared.units.TheConstants.{UNIT_ROWS}
use Rattle.recalc.specs.declared.units.Unit.{Unit}
use Rattle.recalc.specs.Units.{cell_at, height}

-- each of the rows has the code
abbrev pub HaveCode : CodeColumns → Rows → ℕ → Type 0
HaveCode columns rows code = (row : ℕ) → rows.first ≤ row → row ≤ rows.last → code_of columns (cell_at rows row) ≡ Some code

-- there are all columns with all rows
pub record AreColumns (columns : CodeColumns) : Type 0 where
  pub all_columns : length columns ≡ (LAST_SHEET + 1) * LAST_COL
  pub all_rows : (number : ℕ) → number < length columns → length (slice_index_or columns number []) ≡ LAST_ROW

-- the rows of a unit
abbrev pub rows_of : Unit → Rows
rows_of unit = record { sheet = unit.sheet; col = unit.col; first = unit.first; last = unit.last }

-- rows of one code
pub record IsPart (columns : CodeColumns) (unit : Unit) : Type 0 where
  pub rows : IsRows (rows_of unit)
  pub coded : HaveCode columns (rows_of unit) unit.code

-- the first rows of some have one code
pub record IsPartOf (columns : CodeColumns) (rows : Rows) (unit : Unit) : Type 0 where
  pub part : IsPart columns unit
  pub sheet : unit.sheet ≡ rows.sheet
  pub col : unit.col ≡ rows.col
  pub first : unit.first ≡ rows.first
  pub to : unit.last ≤ rows.last

-- a few rows of one code
pub record IsCodedUnit (columns : CodeColumns) (unit : Unit) : Type 0 where
  pub part : IsPart columns unit
  pub few : height (rows_of unit) ≤ UNIT_ROWS

-- The part lies below, and has the same code.
pub record Continues (unit part : Unit) : Type 0 where
  pub sheet : part.sheet ≡ unit.sheet
  pub col : part.col ≡ unit.col
  pub next : part.first ≡ unit.last + 1
  pub code : part.code ≡ unit.code

-- each unit which the next continues has as many rows as a unit may have
abbrev pub AreLinked : List Unit → Type 0
AreLinked [] = ⊤
AreLinked (unit ∷ []) = ⊤
AreLinked (unit ∷ next ∷ others) = (Continues unit next → height (rows_of unit) ≡ UNIT_ROWS) × AreLinked (next ∷ others)

-- the rows of units
abbrev pub all_rows_of : List Unit → List Rows
all_rows_of units = map rows_of units

-- The units have the cells of a list, in its order.
pub record AreCodedUnits (columns : CodeColumns) (places : List Place) (units : List Unit) : Type 0 where
  pub cells : all_cells (all_rows_of units) ≡ places
  pub each : All (IsCodedUnit columns) units
  pub linked : AreLinked units

-- the same part from a row on
abbrev pub begun_at : Unit → ℕ → Unit
begun_at part first = record part { first = first }

-- the unit that begins in a row and to which a part belongs, as far as the part goes
abbrev pub cut_at : Unit → ℕ → Unit
cut_at part first = record part { first = first; last = min part.last (first + (UNIT_ROWS - 1)) }

-- the rows of a part's column in front of it, from a row on
abbrev pub rows_before : Unit → ℕ → Rows
rows_before part first = record (rows_of part) { first = first; last = part.first - 1 }

-- The cells are those of the units and behind them those of a unit that begins in a row and to which the part belongs.
pub record IsOpen (columns : CodeColumns) (places : List Place) (closed : List Unit) (part : Unit) (first : ℕ) : Type 0 where
  pub front : List Place
  pub units : AreCodedUnits columns front closed
  pub cells : front ++ column_places part.sheet part.col first (part.first - 1) ≡ places
  pub coded : HaveCode columns (rows_before part first) part.code
  pub linked : AreLinked (closed ++ begun_at part first ∷ [])
  pub from : 1 ≤ first
  pub to : first ≤ part.first
  pub few : part.first < first + UNIT_ROWS
