-- What is lent of a cell's content.
use Rattle.std.proofs.Common.{◌≡◌, ℕ, ◌+◌, ◌≤◌, ◌<◌, true, false, cond, List, [], ◌∷◌, refl, ap, ◌∙◌, arith}
use Rattle.std.specs.List.{list_all}
use Rattle.std.proofs.lemmas.Bool.Decides.{nat_tests}
use Rattle.calc_addr.specs.declared.cell.TheConstants.{LAST_ROW}
use Rattle.calc_addr.specs.Places.{IsPlace, Place}
use Rattle.calc_model.specs.declared.content.Content.{Content}
use Rattle.calc_model.specs.declared.content.Content.TheVariants as content
use Rattle.calc_model.specs.Books.{is_cell_entry, is_content, is_formula, is_place}
use Rattle.calc_model.specs.CellEdits.{CellEntries}
use Rattle.calc_model.proofs.Areas.{both_true}
use Rattle.formula_code.specs.Codes.{Codes, tree_at}
use Rattle.block_column.specs.declared.slot.Slot.{Slot}
use Rattle.block_column.specs.declared.slot.Slot.TheVariants as slot
use Rattle.block_column.specs.declared.slot.SlotRef.{SlotRef}
use Rattle.block_column.specs.declared.slot.SlotRef.TheVariants as lent
use Rattle.block_column.specs.Kinds.{is_filled, lent_slot}
use Rattle.kept_codes.specs.declared.cells.TheConstants.{COLUMNS}
use Rattle.cell_columns.specs.Cells.{Column, cells_of, column_at, column_number, content_of, slot_at}
use Rattle.cell_columns.specs.Emptied.{lies_in}
use Rattle.cell_columns.specs.Looks.{AreEmptyBelow, IsCoded, IsLent}
use Rattle.cell_columns.specs.Sheets.{AreSheets}
use Rattle.cell_columns.specs.Walks.{AreEmpty, within_rows}
use Rattle.cell_columns.proofs.Told.{holds, tested_place}

pub lent_of : (codes : Codes) (q : Place) (x : SlotRef) (content : Content) → content ≡ content_of codes q (lent_slot x) → IsLent content x
lent_of codes q lent.Empty content is = is
lent_of codes q (lent.Number n) content is = is
lent_of codes q (lent.Words text) content is = is
lent_of codes q (lent.Bad fault) content is = is
lent_of codes q (lent.Raw text) content is = is
lent_of codes q (lent.Formula id) content is = (tree_at codes id q, is)

-- what is lent and is no code is no formula
pub no_formula : (codes : Codes) (q : Place) (x : SlotRef) → ((id : ℕ) → x ≡ lent.Formula id → ⊥) → is_formula (content_of codes q (lent_slot x)) ≡ false
no_formula codes q lent.Empty none = refl
no_formula codes q (lent.Number n) none = refl
no_formula codes q (lent.Words text) none = refl
no_formula codes q (lent.Bad fault) none = refl
no_formula codes q (lent.Raw text) none = refl
no_formula codes q (lent.Formula id) none = absurd (none id refl)

nothing_in : (codes : Codes) (q : Place) (x : Slot) → is_filled x ≡ false → content_of codes q x ≡ content.Empty
nothing_in codes q slot.Empty h = refl
nothing_in codes q (slot.Number n) h = cc
nothing_in codes q (slot.Words text) h = cc
nothing_in codes q (slot.Bad fault) h = cc
nothing_in codes q (slot.Raw text) h = cc
nothing_in codes q (slot.Formula id) h = cc

module _ (codes : Codes) (columns : List Column) (sheets : AreSheets codes columns) where
  pub coded_at : (q : Place) → IsPlace q → (id : ℕ) → slot_at columns q ≡ slot.Formula id → IsCoded (cells_of codes columns) q codes id
  coded_at q is id here = record {
    at = sheets.coded q is id here;
    content = holds codes columns q is ∙ ap (content_of codes q) here;
  }

  pub empty_cells : (start : Place) → IsPlace start → (count : ℕ) → start.row + count ≤ LAST_ROW + 1 → AreEmpty (column_at columns (column_number start)) start.row (start.row + count) → AreEmptyBelow (cells_of codes columns) start count
  empty_cells start is count fits empty k h =
      let q : Place = record start { row = start.row + k } in
      holds codes columns q (there k h) ∙ nothing_in codes q (slot_at columns q) (empty (start.row + k) (omega arith) (omega (arith, h)))
    where
      there : (k : ℕ) → k < count → IsPlace (record start { row = start.row + k })
      there k h = record {
        sheet_in = is.sheet_in;
        col_from = is.col_from;
        col_to = is.col_to;
        row_from = omega (arith, is.row_from);
        row_to = omega (arith, h, fits);
      }

-- all cells lie in all columns
pub all_within : (es : CellEntries) → list_all is_cell_entry es ≡ true → within_rows 0 COLUMNS 1 LAST_ROW es ≡ es
all_within [] h = refl
all_within (e ∷ es) h =
    let parts = both_true (is_cell_entry e) (list_all is_cell_entry es) h in
    let place = both_true (is_place e.0) (is_content e.1) parts.0 in
    ap (λ b. cond b (e ∷ within_rows 0 COLUMNS 1 LAST_ROW es) (within_rows 0 COLUMNS 1 LAST_ROW es)) (inside e.0 (tested_place e.0 place.0))
    ∙ ap (λ t. e ∷ t) (all_within es parts.1)
  where
    inside : (q : Place) → IsPlace q → lies_in 0 COLUMNS 1 LAST_ROW q ≡ true
    inside q is = grind (arith, nat_tests, is.sheet_in, is.col_from, is.col_to, is.row_from, is.row_to)
