-- The slots of a column have what its cells hold.
use Rattle.std.proofs.Common.{ℕ, List, refl, sym, subst}
use Rattle.calc_addr.specs.Places.{IsPlace, Place}
use Rattle.formula_code.specs.Codes.{Codes, tree_at}
use Rattle.block_column.specs.declared.slot.Slot.{Slot}
use Rattle.block_column.specs.declared.slot.Slot.TheVariants as slot
use Rattle.cell_columns.specs.Cells.{Column, cells_of, cells_only, column_at, content_of, slot_at}
use Rattle.cell_columns.specs.ColumnRuns.{IsSheetColumn}
use Rattle.cell_columns.specs.Looks.{AreSlotsOf, Has}
use Rattle.cell_columns.specs.Sheets.{AreSheets}
use Rattle.cell_columns.proofs.Downwards.{column_of, full}
use Rattle.cell_columns.proofs.Told.{holds}

has_itself : (codes : Codes) (q : Place) (x : Slot) → Has x (content_of codes q x)
has_itself codes q slot.Empty = refl
has_itself codes q (slot.Number n) = refl
has_itself codes q (slot.Words text) = refl
has_itself codes q (slot.Bad fault) = refl
has_itself codes q (slot.Raw text) = refl
has_itself codes q (slot.Formula id) = (tree_at codes id q, refl)

pub are_slots : (codes : Codes) (columns : List Column) → AreSheets codes columns → (sheet col : ℕ) → IsSheetColumn sheet col → AreSlotsOf (cells_only (cells_of codes columns)) sheet col (column_at columns (column_of sheet col))
are_slots codes columns sheets sheet col is = record {
  all = full codes columns sheets sheet col is;
  each = λ row from to.
      let q : Place = record { sheet = sheet; col = col; row = row } in
      let place : IsPlace q = record { sheet_in = is.sheet_in; col_from = is.from; col_to = is.to; row_from = from; row_to = to } in
      subst (Has (slot_at columns q)) (sym (holds codes columns q place)) (has_itself codes q (slot_at columns q));
}
