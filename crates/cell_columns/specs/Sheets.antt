-- Columns and codes that are those of a book.
use Rattle.std.specs.Prelude.{◌≡◌, ◌<◌, ℕ, true, List, [], length, slice_index_or}
use Rattle.calc_addr.specs.declared.cell.TheConstants.{LAST_ROW}
use Rattle.calc_addr.specs.Places.{IsPlace, Place}
use Rattle.calc_model.specs.Books.{is_content}
use Rattle.formula_code.specs.Codes.{Codes, IsCodeAt, total_uses, uses_at}
use Rattle.block_column.specs.declared.slot.Slot.{Slot}
use Rattle.block_column.specs.declared.slot.Slot.TheVariants.{Formula}
use Rattle.block_column.specs.Kinds.{is_filled}
use Rattle.kept_codes.specs.declared.cells.TheConstants.{COLUMNS}
use Rattle.cell_columns.specs.Cells.{Column, content_of, slot_at}
use Rattle.cell_columns.specs.Uses.{formulas_in, uses_in}

-- There are all columns with all rows. Each formula's code is one at its cell, and each code has as many uses as
-- there are cells with it. What isn't empty is what a cell can hold.
pub record AreSheets (codes : Codes) (columns : List Column) : Type 0 where
  pub all_columns : length columns ≡ COLUMNS
  pub all_rows : (number : ℕ) → number < COLUMNS → length (slice_index_or columns number []) ≡ LAST_ROW
  pub coded : (q : Place) → IsPlace q → (id : ℕ) → slot_at columns q ≡ Formula id → IsCodeAt codes id q
  pub fit : (q : Place) → IsPlace q → is_filled (slot_at columns q) ≡ true → is_content (content_of codes q (slot_at columns q)) ≡ true
  pub used : (id : ℕ) → uses_at codes id ≡ uses_in id columns
  pub total : total_uses codes ≡ formulas_in columns

-- A slot that is put into a cell: its code is one there, and it is what a cell can hold.
pub record IsFit (codes : Codes) (q : Place) (x : Slot) : Type 0 where
  pub coded : (id : ℕ) → x ≡ Formula id → IsCodeAt codes id q
  pub fit : is_filled x ≡ true → is_content (content_of codes q x) ≡ true
