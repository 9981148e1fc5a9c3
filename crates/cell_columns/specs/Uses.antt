-- How many cells have each code, and how many have anything.
use Rattle.std.specs.Prelude.{ℕ, ◌==◌, List, map, Option, Some, None, sum_by, if◌then◌else◌}
use Rattle.block_column.specs.declared.slot.Slot.{Slot}
use Rattle.block_column.specs.declared.slot.Slot.TheVariants.{Formula}
use Rattle.block_column.specs.Kinds.{is_filled}
use Rattle.cell_columns.specs.Cells.{Column}

-- the code of a slot with a formula
abbrev pub code_in : Slot → Option ℕ
code_in (Formula id) = Some id
code_in _ = None

-- the codes of a column's rows
abbrev pub codes_in : Column → List (Option ℕ)
codes_in c = map code_in c

-- a number of each slot, summed over all rows of all columns
abbrev pub summed : (Slot → ℕ) → List Column → ℕ
summed of columns = sum_by (λ c. sum_by of c) columns

-- one where the slot has that code, where it has one, and where it has anything
abbrev pub use_of : ℕ → Slot → ℕ
use_of id (Formula other) = if id == other then 1 else 0
use_of id _ = 0

abbrev pub formula_of : Slot → ℕ
formula_of (Formula id) = 1
formula_of _ = 0

abbrev pub cell_of : Slot → ℕ
cell_of x = if is_filled x then 1 else 0

abbrev pub uses_in : ℕ → List Column → ℕ
uses_in id columns = summed (use_of id) columns

abbrev pub formulas_in : List Column → ℕ
formulas_in columns = summed formula_of columns
