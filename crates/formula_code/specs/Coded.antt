-- The formulas of a book by the codes of its columns: which code each cell has, and what its formula reads.
use Rattle.std.specs.Prelude.{◌≡◌, ◌<◌, ℕ, ◌+◌, ◌-◌, ◌*◌, List, [], length, Option, None, Some, option_map, slice_index_or}
use Rattle.calc_addr.specs.declared.cell.TheConstants.{LAST_COL, LAST_ROW, LAST_SHEET}
use Rattle.calc_addr.specs.Places.{IsPlace, Place, Rectangle}
use Rattle.calc_model.specs.declared.tree.Tree.{Tree}
use Rattle.calc_model.specs.declared.content.Content.{Content}
use Rattle.calc_model.specs.declared.content.Content.TheVariants.{Formula}
use Rattle.calc_model.specs.Books.{Book, NameEntries, content_at, entry_named}
use Rattle.calc_model.specs.Listeners.{ReadAreas}
use Rattle.calc_model.specs.Reads.{areas}
use Rattle.formula_code.specs.Codes.{Codes, IsCodeAt, tree_at}

-- what each row of each column has, a code or none
abbrev pub CodeColumns : Type 0
CodeColumns = List (List (Option ℕ))

-- the number of a column among those of all sheets, which is 0 for the first one
abbrev pub number_of : ℕ → ℕ → ℕ
number_of sheet col = sheet * LAST_COL + (col - 1)

-- the code of a row, if it has a formula
abbrev pub code_in_row : List (Option ℕ) → ℕ → Option ℕ
code_in_row column row = slice_index_or column (row - 1) None

abbrev pub code_of : CodeColumns → Place → Option ℕ
code_of columns q = code_in_row (slice_index_or columns (number_of q.sheet q.col) []) q.row

-- what a formula with that code reads in a cell
abbrev pub areas_by_code : Codes → NameEntries → Place → ℕ → List Rectangle
areas_by_code codes names q id = areas q (entry_named names) (tree_at codes id q)

-- what each cell reads that has a code
abbrev pub coded_areas : Codes → NameEntries → CodeColumns → ReadAreas
coded_areas codes names columns q = option_map (areas_by_code codes names q) (code_of columns q)

-- There are all columns with all rows, and each code is one in its cell.
pub record AreCoded (codes : Codes) (columns : CodeColumns) : Type 0 where
  pub all_columns : length columns ≡ (LAST_SHEET + 1) * LAST_COL
  pub all_rows : (number : ℕ) → number < length columns → length (slice_index_or columns number []) ≡ LAST_ROW
  pub coded : (q : Place) → IsPlace q → (id : ℕ) → code_of columns q ≡ Some id → IsCodeAt codes id q

-- the formula that a cell holds, if it holds one
abbrev pub formula_in : Content → Option Tree
formula_in (Formula tree) = Some tree
formula_in _ = None

-- The formulas of the book's cells are those of their codes.
abbrev pub AreFormulasOf : Codes → CodeColumns → Book → Type 0
AreFormulasOf codes columns book = (q : Place) → IsPlace q → formula_in (content_at book q) ≡ option_map (λ id. tree_at codes id q) (code_of columns q)
