-- What is lent of a cell's content, and the codes by which formulas are kept.
use Rattle.std.specs.Prelude.{◌≡◌, ℕ, ◌+◌, ◌-◌, ◌<◌, ◌≤◌, List, length, map, slice_index_or}
use Rattle.calc_addr.specs.declared.cell.TheConstants.{LAST_ROW}
use Rattle.calc_addr.specs.Places.{Place}
use Rattle.calc_model.specs.declared.tree.Tree.{Tree}
use Rattle.calc_model.specs.declared.content.Content.{Content}
use Rattle.calc_model.specs.declared.content.Content.TheVariants.{Empty, Constant, Formula, Raw}
use Rattle.calc_model.specs.declared.value.Value.TheVariants as value
use Rattle.calc_model.specs.Books.{Book, content_at}
use Rattle.calc_model.specs.CellEdits.{CellEntries}
use Rattle.formula_code.specs.Codes.{Codes, IsCodeAt, tree_at}
use Rattle.block_column.specs.declared.slot.Slot.{Slot}
use Rattle.block_column.specs.declared.slot.Slot.TheVariants as slot
use Rattle.block_column.specs.declared.slot.SlotRef.{SlotRef}
use Rattle.block_column.specs.declared.slot.SlotRef.TheVariants as lent
use Rattle.cell_columns.specs.Cells.{cells_only}

-- what is lent is the content; of a formula its code is lent
abbrev pub IsLent : Content → SlotRef → Type 0
IsLent content lent.Empty = content ≡ Empty
IsLent content (lent.Number n) = content ≡ Constant (value.Number n)
IsLent content (lent.Words text) = content ≡ Constant (value.Words text.now)
IsLent content (lent.Bad fault) = content ≡ Constant (value.Bad fault)
IsLent content (lent.Raw text) = content ≡ Raw text.now
IsLent content (lent.Formula id) = (tree : Tree) × (content ≡ Formula tree)

-- The formula of a cell is that of a code at it.
pub record IsCoded (cells : CellEntries) (cell : Place) (codes : Codes) (id : ℕ) : Type 0 where
  pub at : IsCodeAt codes id cell
  pub content : content_at (cells_only cells) cell ≡ Formula (tree_at codes id cell)

-- so many cells of a column from that one on are empty
abbrev pub AreEmptyBelow : CellEntries → Place → ℕ → Type 0
AreEmptyBelow cells start count = (k : ℕ) → k < count → content_at (cells_only cells) (record start { row = start.row + k }) ≡ Empty

-- the cells with what they hold
abbrev pub with_contents : CellEntries → List Place → CellEntries
with_contents cells places = map (λ q. (q, content_at (cells_only cells) q)) places

-- the slot has the content; of a formula it has a code
abbrev pub Has : Slot → Content → Type 0
Has slot.Empty content = content ≡ Empty
Has (slot.Number n) content = content ≡ Constant (value.Number n)
Has (slot.Words text) content = content ≡ Constant (value.Words text)
Has (slot.Bad fault) content = content ≡ Constant (value.Bad fault)
Has (slot.Raw text) content = content ≡ Raw text
Has (slot.Formula id) content = (tree : Tree) × (content ≡ Formula tree)

-- The slots are those of a column's rows, and have what its cells hold.
pub record AreSlotsOf (book : Book) (sheet col : ℕ) (slots : List Slot) : Type 0 where
  pub all : length slots ≡ LAST_ROW
  pub each : (row : ℕ) → 1 ≤ row → row ≤ LAST_ROW → Has (slice_index_or slots (row - 1) slot.Empty) (content_at book (record { sheet = sheet; col = col; row = row }))
