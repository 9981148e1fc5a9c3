-- Codes that are the same, under columns that are seen as the same.
use Rattle.std.proofs.Common.{◌≡◌, ℕ, ◌+◌, ◌≤◌, true, cond, List, [], ◌∷◌, ◌++◌, length, map, refl, sym, ap, subst, ◌∙◌, arith}
use Rattle.std.specs.Prelude.{IsSome, sum_by}
use Rattle.std.specs.Option.{option_map_or}
use Rattle.std.proofs.lemmas.List.Sums.{sum_by-le-sum_by}
use Rattle.calc_addr.specs.Places.{Place}
use Rattle.calc_model.specs.declared.content.Content.TheVariants.{Formula}
use Rattle.calc_model.specs.declared.tree.Tree.TheVariants.{Bad}
use Rattle.calc_model.specs.declared.fault.Fault.TheVariants.{Syntax}
use Rattle.calc_model.specs.Books.{is_content}
use Rattle.calc_model.specs.declared.limits.TheConstants.{MOST_CELLS}
use Rattle.calc_model.specs.CellEdits.{CellEntries}
use Rattle.formula_code.specs.Codes.{Code, Codes, IsSame, form_at, has_valid_references, slot_uses}
use Rattle.formula_code.specs.Relative.{absolute}
use Rattle.formula_code.proofs.Totals.{uses_same}
use Rattle.block_column.specs.declared.slot.Slot.{Slot}
use Rattle.block_column.specs.declared.slot.Slot.TheVariants as slot
use Rattle.block_column.specs.Kinds.{is_filled}
use Rattle.block_column.specs.SlotRows.{SlotRows}
use Rattle.formula_groups.specs.GroupRows.{GroupRows}
use Rattle.kept_codes.specs.Columns.{cell_in}
use Rattle.cell_columns.specs.Cells.{Column, cells_below, cells_from, cells_of, content_of, slot_at}
use Rattle.cell_columns.specs.Lent.{AreColumns, codes_of, slots_of}
use Rattle.cell_columns.specs.Sheets.{AreSheets}
use Rattle.cell_columns.specs.Uses.{cell_of, codes_in, formula_of, formulas_in, summed}

form_same : (old new : Codes) → IsSame old new → (id : ℕ) → form_at new id ≡ form_at old id
form_same old new same id = ap (λ o. option_map_or (λ (code : Code). code.form) o (Bad Syntax)) (same id)

content_same : (old new : Codes) → IsSame old new → (q : Place) (x : Slot) → content_of new q x ≡ content_of old q x
content_same old new same q slot.Empty = refl
content_same old new same q (slot.Number n) = refl
content_same old new same q (slot.Words text) = refl
content_same old new same q (slot.Bad fault) = refl
content_same old new same q (slot.Raw text) = refl
content_same old new same q (slot.Formula id) = ap (λ form. Formula (absolute q form)) (form_same old new same id)

module _ (old new : Codes) (same : IsSame old new) where
  below_same : (number row : ℕ) (xs : Column) → cells_below new number row xs ≡ cells_below old number row xs
  below_same number row [] = refl
  below_same number row (x ∷ xs) =
      let rest : CellEntries = cells_below old number (row + 1) xs in
      ap (λ (es : CellEntries). cond (is_filled x) ((cell_in number row, content_of new (cell_in number row) x) ∷ es) es) (below_same number (row + 1) xs)
      ∙ ap (λ c. cond (is_filled x) ((cell_in number row, c) ∷ rest) rest) (content_same old new same (cell_in number row) x)

  from_same : (number : ℕ) (cs : List Column) → cells_from new number cs ≡ cells_from old number cs
  from_same number [] = refl
  from_same number (c ∷ cs) =
      ap (λ es. es ++ cells_from new (number + 1) cs) (below_same number 1 c)
      ∙ ap (λ es. cells_below old number 1 c ++ es) (from_same (number + 1) cs)

  pub cells_same : (columns : List Column) → cells_of new columns ≡ cells_of old columns
  unfolding cells_of
  cells_same columns = from_same 0 columns

  pub sheets_same : (columns : List Column) → AreSheets old columns → AreSheets new columns
  sheets_same columns was = record {
    all_columns = was.all_columns;
    all_rows = was.all_rows;
    coded = λ q is id here. record {
      live = subst IsSome (sym (same id)) (was.coded q is id here).live;
      valid = subst (λ form. has_valid_references (absolute q form) ≡ true) (sym (form_same old new same id)) (was.coded q is id here).valid;
    };
    fit = λ q is filled. subst (λ c. is_content c ≡ true) (sym (content_same old new same q (slot_at columns q))) (was.fit q is filled);
    used = λ id. ap slot_uses (same id) ∙ was.used id;
    total = uses_same old new same ∙ was.total;
  }

  pub columns_same : (columns after : List SlotRows) (groups groups_after : List GroupRows) (len : ℕ) → slots_of after ≡ slots_of columns → codes_of groups_after ≡ codes_of groups → AreColumns old columns groups len → AreColumns new after groups_after len
  columns_same columns after groups groups_after len slots codes was = record {
    sheets = subst (AreSheets new) (sym slots) (sheets_same (slots_of columns) was.sheets);
    grouped = codes ∙ was.grouped ∙ ap (map codes_in) (sym slots);
    few = subst (λ es. length es ≤ MOST_CELLS) (sym seen) was.few;
    counted = was.counted ∙ ap length (sym seen);
  }
    where
      seen : cells_of new (slots_of after) ≡ cells_of old (slots_of columns)
      seen = ap (cells_of new) slots ∙ cells_same (slots_of columns)

  pub seen_same : (columns after : List SlotRows) → slots_of after ≡ slots_of columns → cells_of new (slots_of after) ≡ cells_of old (slots_of columns)
  seen_same columns after slots = ap (cells_of new) slots ∙ cells_same (slots_of columns)

one_formula : (x : Slot) → formula_of x ≤ cell_of x
one_formula slot.Empty = omega arith
one_formula (slot.Number n) = omega arith
one_formula (slot.Words text) = omega arith
one_formula (slot.Bad fault) = omega arith
one_formula (slot.Raw text) = omega arith
one_formula (slot.Formula id) = omega arith

-- formulas are cells
pub formulas_few : (columns : List Column) → formulas_in columns ≤ summed cell_of columns
formulas_few columns = sum_by-le-sum_by (λ c. sum_by formula_of c) (λ c. sum_by cell_of c) columns (λ c. sum_by-le-sum_by formula_of cell_of c one_formula)
