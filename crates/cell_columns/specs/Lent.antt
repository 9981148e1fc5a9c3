-- What the columns and the groups of a book's cells are seen as.
use Rattle.std.specs.Prelude.{◌≡◌, ◌≤◌, ◌<◌, ℕ, List, length, map, Option, slice_index_or}
use Rattle.block_column.specs.SlotRows.{SlotRows}
use Rattle.formula_groups.specs.GroupRows.{GroupRows}
use Rattle.calc_model.specs.declared.limits.TheConstants.{MOST_CELLS}
use Rattle.formula_code.specs.Codes.{Codes}
use Rattle.cell_columns.specs.Cells.{Column, cells_of}
use Rattle.cell_columns.specs.Sheets.{AreSheets}
use Rattle.cell_columns.specs.Uses.{codes_in}

abbrev pub slots_of : List SlotRows → List Column
slots_of columns = map (λ (c : SlotRows). c.slots) columns

abbrev pub codes_of : List GroupRows → List (List (Option ℕ))
codes_of groups = map (λ (g : GroupRows). g.entries) groups

-- The columns and codes are those of a book, the groups are those of the columns' formulas, and there are so many
-- cells, at most as many as a book may have.
pub record AreColumns (codes : Codes) (columns : List SlotRows) (groups : List GroupRows) (len : ℕ) : Type 0 where
  pub sheets : AreSheets codes (slots_of columns)
  pub grouped : codes_of groups ≡ map codes_in (slots_of columns)
  pub few : length (cells_of codes (slots_of columns)) ≤ MOST_CELLS
  pub counted : len ≡ length (cells_of codes (slots_of columns))

-- Each of the columns from one number up to another has room for an edit, and so have its groups.
pub record HaveRoom (columns : List SlotRows) (groups : List GroupRows) (from behind : ℕ) : Type 0 where
  pub slots : (n : ℕ) → from ≤ n → n < behind → (d : SlotRows) → 1 ≤ (slice_index_or columns n d).spare
  pub codes : (n : ℕ) → from ≤ n → n < behind → (d : GroupRows) → 1 ≤ (slice_index_or groups n d).spare
