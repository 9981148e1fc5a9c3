-- Where the cells of a book go with a change of rows, and what becomes of them.
use Rattle.std.specs.Prelude.{◌≡◌, ◌≤◌, ◌<◌, ◌-◌, ℕ, true, List, length, map, ◌⊎◌}
use Rattle.calc_addr.specs.Places.{IsPlace, Place}
use Rattle.calc_model.specs.declared.change.Change.{Change}
use Rattle.calc_model.specs.declared.change.Change.TheVariants.{Inserted, Deleted}
use Rattle.calc_model.specs.declared.content.Content.TheVariants.{Formula}
use Rattle.calc_model.specs.declared.tree.Tree.{Tree}
use Rattle.calc_model.specs.Books.{content_at, is_held}
use Rattle.calc_model.specs.CellEdits.{CellEntries}
use Rattle.calc_model.specs.RowEdits.{shifted_entry}
use Rattle.formula_code.specs.Relative.{relative}
use Rattle.run_tables.specs.Rows.{rows_erased, rows_inserted}
use Rattle.block_column.specs.declared.slot.Slot.TheVariants.{Empty}
use Rattle.kept_codes.specs.Gathered.{Among}
use Rattle.kept_codes.specs.RowChanges.{StaysIn, goes, tree_after}
use Rattle.cell_columns.specs.Cells.{Column, cells_only, column_at}

-- what the rows of a column of that sheet hold afterwards, where e is nothing
abbrev pub rows_moved : {T : Type 0} → Change → T → List T → List T
rows_moved (Inserted sheet place count) e rows = rows_inserted (place - 1) count e rows
rows_moved (Deleted sheet place count) e rows = rows_erased (place - 1) count e rows
rows_moved _ e rows = rows

-- all cells where they go
unfoldable pub shifted : Change → CellEntries → CellEntries
shifted change cells = map (shifted_entry (goes change) (tree_after change)) cells

-- each cell that isn't empty stays
abbrev pub AllStayIn : Change → CellEntries → Type 0
AllStayIn change cells = (q : Place) → IsPlace q → is_held (content_at (cells_only cells) q) ≡ true → StaysIn change q

-- the formula's relative form is the same afterwards
abbrev pub KeepsForm : Change → Place → Tree → Type 0
KeepsForm change home tree = relative (goes change home) (tree_after change home tree) ≡ relative home tree

-- the relative forms of all formulas are
abbrev pub AllKeepForms : Change → CellEntries → Type 0
AllKeepForms change cells = (q : Place) → IsPlace q → (tree : Tree) → content_at (cells_only cells) q ≡ Formula tree → KeepsForm change q tree

-- The relative form of each formula is the same afterwards, or its cell is one of these.
abbrev pub AllKeepOrAre : Change → CellEntries → List Place → Type 0
AllKeepOrAre change cells places = (q : Place) → IsPlace q → (tree : Tree) → content_at (cells_only cells) q ≡ Formula tree → KeepsForm change q tree ⊎ Among q places

-- The columns from one number up to another went with the change, and the others stayed.
pub record PartlyMoved (change : Change) (before after : List Column) (from behind : ℕ) : Type 0 where
  pub all : length after ≡ length before
  pub moved : (n : ℕ) → from ≤ n → n < behind → n < length before → column_at after n ≡ rows_moved change Empty (column_at before n)
  pub others : (n : ℕ) → (n < from) ⊎ (behind ≤ n) → column_at after n ≡ column_at before n
