-- The rows of a column that hold something, and the cells that they are.
use Rattle.std.specs.Prelude.{◌≡◌, ◌≤◌, ◌<◌, ℕ, ◌+◌, ◌-◌, Bool, true, false, List, [], ◌∷◌, map, take, drop, max, min, sum_by, if◌then◌else◌, slice_index_or}
use Rattle.std.specs.List.{filter}
use Rattle.calc_addr.specs.declared.cell.TheConstants.{LAST_ROW}
use Rattle.calc_addr.specs.Places.{Place}
use Rattle.calc_model.specs.Books.{is_formula}
use Rattle.calc_model.specs.CellEdits.{CellEntries}
use Rattle.block_column.specs.declared.slot.Slot.{Slot}
use Rattle.block_column.specs.declared.slot.Slot.TheVariants as slot
use Rattle.block_column.specs.declared.block.Kind.{Kind}
use Rattle.block_column.specs.declared.block.Kind.TheVariants as kind
use Rattle.block_column.specs.declared.block.Block.{Block}
use Rattle.block_column.specs.Kinds.{is_filled}
use Rattle.kept_codes.specs.Columns.{cell_in}
use Rattle.cell_columns.specs.Cells.{Column}
use Rattle.cell_columns.specs.Emptied.{lies_in}

-- the slot of a row
abbrev pub slot_in : Column → ℕ → Slot
slot_in c row = slice_index_or c (row - 1) slot.Empty

-- the rows from one up to another are empty
abbrev pub AreEmpty : Column → ℕ → ℕ → Type 0
AreEmpty c first behind = (row : ℕ) → first ≤ row → row < behind → is_filled (slot_in c row) ≡ false

-- The row is the first of these, from one to another, that isn't empty.
pub record IsNext (c : Column) (first last row : ℕ) : Type 0 where
  pub from : first ≤ row
  pub to : row ≤ last
  pub filled : is_filled (slot_in c row) ≡ true
  pub before : AreEmpty c first row

-- the rows from the first to the last
abbrev pub rows_in : ℕ → ℕ → Column → Column
rows_in first last c = take (last + 1 - first) (drop (first - 1) c)

-- the cells of some rows of a column, from that row on, that aren't empty
abbrev pub places_below : ℕ → ℕ → Column → List Place
places_below number row [] = []
places_below number row (x ∷ xs) =
    let rest : List Place = places_below number (row + 1) xs in
    if is_filled x then cell_in number row ∷ rest else rest

-- the cells, with what they hold, of some rows of neighbouring columns
abbrev pub within_rows : ℕ → ℕ → ℕ → ℕ → CellEntries → CellEntries
within_rows from behind first last cells = filter (λ entry. lies_in from behind first last entry.0) cells

abbrev pub places_of : CellEntries → List Place
places_of cells = map (λ entry. entry.0) cells

-- the slots of the kind hold something
abbrev pub holds_something : Kind → Bool
holds_something kind.Empty = false
holds_something _ = true

-- how many of the rows from the first to the last the block has, and how many that hold something
abbrev pub block_overlap : ℕ → ℕ → Block → ℕ
block_overlap first last b = min b.last last + 1 - max b.first first

abbrev pub filled_in : ℕ → ℕ → Block → ℕ
filled_in first last b = if holds_something b.kind then block_overlap first last b else 0

abbrev pub filled_among : ℕ → ℕ → List Block → ℕ
filled_among first last blocks = sum_by (filled_in first last) blocks

-- how many rows of a block, and of all, hold a formula
abbrev pub holds_formula : Kind → Bool
holds_formula kind.Formula = true
holds_formula _ = false

abbrev pub formulas_in_block : Block → ℕ
formulas_in_block b = if holds_formula b.kind then block_overlap 1 LAST_ROW b else 0

abbrev pub formulas_by_blocks : List Block → ℕ
formulas_by_blocks blocks = sum_by formulas_in_block blocks

-- the formulas among cells
abbrev pub formulas_of : CellEntries → CellEntries
formulas_of cells = filter (λ entry. is_formula entry.1) cells
