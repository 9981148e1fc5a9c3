-- The units of waves: of each wave the maximal runs of neighbouring rows of one column whose formulas have one relative
-- form, each cut from its first row into parts of `UNIT_ROWS` rows and what is left.
use Rattle.std.specs.Prelude.{◌≡◌, ◌≤◌, ⊤, ℕ, zero, suc, ◌+◌, ◌-◌, true, List, [], ◌∷◌, length, slice_index_or}
use Rattle.std.specs.List.{All}
use Rattle.calc_addr.specs.Places.{Place, Rows}
use Rattle.calc_model.specs.Books.{Book}
use Rattle.calc_model.specs.Grounded.{is_circular}
use Rattle.calc_model.specs.Touched.{CellSet}
use Rattle.cell_columns.specs.ColumnRuns.{form_in}
use Rattle.cell_runs.specs.CellLists.{all_cells, first_cell}
use Rattle.formula_listeners.specs.Held.{areas_in}
use Rattle.dirty_spread.specs.Waves.{AreAll, AreWaves, Problem}
use Rattle.recalc.specs.declared.units.TheConstants.{UNIT_ROWS}

-- the cell of a row of some rows' column
abbrev pub cell_at : Rows → ℕ → Place
cell_at rows row = record { sheet = rows.sheet; col = rows.col; row = row }

-- how many rows there are
abbrev pub height : Rows → ℕ
height rows = rows.last + 1 - rows.first

-- A unit: a few rows whose formulas have one relative form.
pub record IsUnit (book : Book) (rows : Rows) : Type 0 where
  pub some : rows.first ≤ rows.last
  pub few : height rows ≤ UNIT_ROWS
  pub alike : (row : ℕ) → rows.first ≤ row → row ≤ rows.last → form_in book (cell_at rows row) ≡ form_in book (first_cell rows)

-- Other rows lie below, and their first formula has the relative form of these.
pub record GoesOn (book : Book) (rows below : Rows) : Type 0 where
  pub sheet : below.sheet ≡ rows.sheet
  pub col : below.col ≡ rows.col
  pub next : below.first ≡ rows.last + 1
  pub alike : form_in book (first_cell below) ≡ form_in book (first_cell rows)

-- each unit on which the next goes on has as many rows as a unit may have
abbrev pub AreCut : Book → List Rows → Type 0
AreCut book [] = ⊤
AreCut book (rows ∷ []) = ⊤
AreCut book (rows ∷ below ∷ others) = (GoesOn book rows below → height rows ≡ UNIT_ROWS) × AreCut book (below ∷ others)

-- The units of a wave: they have its cells, in its order.
pub record AreUnits (book : Book) (wave : List Place) (units : List Rows) : Type 0 where
  pub cells : all_cells units ≡ wave
  pub each : All (IsUnit book) units
  pub cut : AreCut book units

-- a wave has so many units
abbrev pub HasUnits : Book → List Place → ℕ → Type 0
HasUnits book wave count = (units : List Rows) × AreUnits book wave units × (count ≡ length units)

-- the first k waves have so many units
abbrev pub HaveUnits : Book → List (List Place) → ℕ → ℕ → Type 0
HaveUnits book waves zero count = count ≡ 0
HaveUnits book waves (suc k) count =
    (before own : ℕ) × HaveUnits book waves k before × HasUnits book (slice_index_or waves k []) own × (count ≡ before + own)

-- the problem of a book's stale cells
abbrev pub problem_in : Book → List Place → Problem
problem_in book stale = record { read = areas_in book; stale = stale; circular = is_circular book }

-- the waves of a book's stale cells have so many units
abbrev pub HaveStaleUnits : Book → List Place → ℕ → Type 0
HaveStaleUnits book stale count =
    (waves : List (List Place)) × AreWaves (problem_in book stale) waves × HaveUnits book waves (length waves) count

-- the cells that are stale are in waves that have so many units
abbrev pub StaleUnits : Book → CellSet → ℕ → Type 0
StaleUnits book stale count = (cells : List Place) × AreAll (λ q. stale q ≡ true) cells × HaveStaleUnits book cells count
