-- The formulas of columns by their codes.
use Rattle.std.proofs.Common.{◌≡◌, ℕ, ◌-◌, List, length, map, Option, None, Some, refl, sym, ap, ◌∙◌, arith}
use Rattle.std.specs.Prelude.{slice_index_or}
use Rattle.std.specs.Option.{option_map}
use Rattle.calc_addr.specs.Places.{Place}
use Rattle.formula_code.specs.Coded.{AreCoded, AreFormulasOf, code_of, formula_in}
use Rattle.formula_code.specs.Codes.{Codes, tree_at}
use Rattle.block_column.specs.declared.slot.Slot.{Slot}
use Rattle.block_column.specs.declared.slot.Slot.TheVariants as slot
use Rattle.cell_columns.specs.Cells.{Column, cells_of, cells_only, column_at, column_number, content_of, slot_at}
use Rattle.cell_columns.specs.Sheets.{AreSheets}
use Rattle.cell_columns.specs.Uses.{code_in, codes_in}
use Rattle.cell_columns.proofs.Groups.{codes_at}
use Rattle.cell_columns.proofs.Maps.{length_map, map_at}
use Rattle.cell_columns.proofs.Told.{holds}

formula_of_code : (x : Slot) (id : ℕ) → code_in x ≡ Some id → x ≡ slot.Formula id
formula_of_code slot.Empty id h = cc
formula_of_code (slot.Number n) id h = cc
formula_of_code (slot.Words text) id h = cc
formula_of_code (slot.Bad fault) id h = cc
formula_of_code (slot.Raw text) id h = cc
formula_of_code (slot.Formula other) id h = cc

tree_of_slot : (codes : Codes) (q : Place) (x : Slot) → formula_in (content_of codes q x) ≡ option_map (λ id. tree_at codes id q) (code_in x)
tree_of_slot codes q slot.Empty = refl
tree_of_slot codes q (slot.Number n) = refl
tree_of_slot codes q (slot.Words text) = refl
tree_of_slot codes q (slot.Bad fault) = refl
tree_of_slot codes q (slot.Raw text) = refl
tree_of_slot codes q (slot.Formula id) = refl

module _ (codes : Codes) (columns : List Column) (sheets : AreSheets codes columns) where
  code_here : (q : Place) → code_of (map codes_in columns) q ≡ code_in (slot_at columns q)
  code_here q =
      ap (λ (row : List (Option ℕ)). slice_index_or row (q.row - 1) None) (codes_at columns (column_number q))
      ∙ sym (map_at code_in (column_at columns (column_number q)) (q.row - 1) slot.Empty)

  pub are_coded : AreCoded codes (map codes_in columns)
  are_coded = record {
    all_columns = length_map codes_in columns ∙ sheets.all_columns;
    all_rows = λ n h. ap length (codes_at columns n) ∙ length_map code_in (column_at columns n) ∙ sheets.all_rows n (omega (arith, h, length_map codes_in columns, sheets.all_columns));
    coded = λ q is id h. sheets.coded q is id (formula_of_code (slot_at columns q) id (sym (code_here q) ∙ h));
  }

  pub are_formulas : AreFormulasOf codes (map codes_in columns) (cells_only (cells_of codes columns))
  are_formulas q is =
      ap formula_in (holds codes columns q is)
      ∙ tree_of_slot codes q (slot_at columns q)
      ∙ ap (option_map (λ id. tree_at codes id q)) (sym (code_here q))
