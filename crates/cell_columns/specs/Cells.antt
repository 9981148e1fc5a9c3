-- The columns of sixteen sheets as the cells of a book. The columns are numbered from 0, those of the first sheet
-- first, and each has the slots of its rows.
use Rattle.std.specs.Prelude.{ℕ, ◌+◌, ◌-◌, ◌*◌, ◌==◌, ◌&&◌, nat_le, nat_lt, Bool, Option, List, [], ◌∷◌, ◌++◌, length, take, drop, if◌then◌else◌, slice_index_or, slice_set}
use Rattle.calc_addr.specs.declared.cell.TheConstants.{LAST_COL}
use Rattle.calc_addr.specs.Places.{Place}
use Rattle.calc_model.specs.declared.content.Content.{Content}
use Rattle.calc_model.specs.declared.content.Content.TheVariants.{Empty, Constant, Formula, Raw}
use Rattle.calc_model.specs.declared.value.Value.TheVariants as value
use Rattle.calc_model.specs.Books.{Book}
use Rattle.calc_model.specs.CellEdits.{CellEntries}
use Rattle.formula_code.specs.Codes.{Codes, tree_at}
use Rattle.block_column.specs.declared.slot.Slot.{Slot}
use Rattle.block_column.specs.declared.slot.Slot.TheVariants as slot
use Rattle.block_column.specs.Kinds.{is_filled}
use Rattle.kept_codes.specs.Columns.{cell_in}

abbrev pub Column : Type 0
Column = List Slot

-- the number of a cell's column
abbrev pub column_number : Place → ℕ
column_number q = q.sheet * LAST_COL + (q.col - 1)

-- what a slot is in a cell
abbrev pub content_of : Codes → Place → Slot → Content
content_of codes home slot.Empty = Empty
content_of codes home (slot.Number n) = Constant (value.Number n)
content_of codes home (slot.Words text) = Constant (value.Words text)
content_of codes home (slot.Bad fault) = Constant (value.Bad fault)
content_of codes home (slot.Raw text) = Raw text
content_of codes home (slot.Formula id) = Formula (tree_at codes id home)

-- the cells of a column that aren't empty, from a row on
abbrev pub cells_below : Codes → ℕ → ℕ → Column → CellEntries
cells_below codes number row [] = []
cells_below codes number row (x ∷ xs) =
    let rest : CellEntries = cells_below codes number (row + 1) xs in
    if is_filled x then (cell_in number row, content_of codes (cell_in number row) x) ∷ rest else rest

-- the cells of columns from a number on that aren't empty
abbrev pub cells_from : Codes → ℕ → List Column → CellEntries
cells_from codes number [] = []
cells_from codes number (c ∷ cs) = cells_below codes number 1 c ++ cells_from codes (number + 1) cs

-- the cells of all columns that aren't empty, in the order of cells
unfoldable pub cells_of : Codes → List Column → CellEntries
cells_of codes columns = cells_from codes 0 columns

-- the slot of a cell
abbrev pub slot_at : List Column → Place → Slot
slot_at columns q = slice_index_or (slice_index_or columns (column_number q) []) (q.row - 1) slot.Empty

-- the slots of the column with that number
abbrev pub column_at : List Column → ℕ → Column
column_at columns number = slice_index_or columns number []

-- the columns with the slot in the cell
abbrev pub with_slot : List Column → Place → Slot → List Column
with_slot columns cell x = slice_set columns (column_number cell) (slice_set (column_at columns (column_number cell)) (cell.row - 1) x)

-- the codes of columns with that one, or none, in the cell
abbrev pub with_code : List (List (Option ℕ)) → Place → Option ℕ → List (List (Option ℕ))
with_code groups cell code = slice_set groups (column_number cell) (slice_set (slice_index_or groups (column_number cell) []) (cell.row - 1) code)

-- the rows behind the first a hold these slots
abbrev pub rows_put : {T : Type 0} → ℕ → List T → List T → List T
rows_put a xs rows = take a rows ++ (xs ++ drop (a + length xs) rows)

-- the columns with these slots in the rows of a column behind the first a
abbrev pub with_rows : List Column → ℕ → ℕ → Column → List Column
with_rows columns number a xs = slice_set columns number (rows_put a xs (column_at columns number))

-- the cell lies in these rows of the column
abbrev pub is_in_rows : ℕ → ℕ → Column → Place → Bool
is_in_rows number a xs q = (column_number q == number) && nat_le a (q.row - 1) && nat_lt (q.row - 1) (a + length xs)

-- the book of these cells, without names
abbrev pub cells_only : CellEntries → Book
cells_only cells = record { cells = cells; names = [] }
