-- Columns and codes stay those of a book where edited slots have codes of their cells.
use Rattle.std.proofs.Common.{◌≡◌, ℕ, ◌-◌, ◌≤◌, ◌<◌, true, List, [], length, Some, None, refl, sym, ap, subst, ◌∙◌, ◌⊎◌, inl, inr, arith}
use Rattle.std.specs.Prelude.{IsSome, sum_by}
use Rattle.std.proofs.lemmas.List.Sums.{get_or-le-sum_by}
use Rattle.std.proofs.lemmas.Bool.Decides.{nat_tests}
use Rattle.calc_addr.specs.declared.cell.TheConstants.{LAST_ROW}
use Rattle.calc_addr.specs.Places.{IsPlace, Place}
use Rattle.calc_model.specs.Books.{is_content}
use Rattle.calc_model.specs.declared.content.Content.TheVariants as content
use Rattle.formula_code.specs.Codes.{Codes, IsCodeAt, IsLive, code_at, form_at, has_valid_references, slot_uses, total_uses, uses_at}
use Rattle.formula_code.specs.Relative.{absolute}
use Rattle.block_column.specs.declared.slot.Slot.TheVariants as slot
use Rattle.block_column.specs.Kinds.{is_filled}
use Rattle.kept_codes.specs.declared.cells.TheConstants.{COLUMNS}
use Rattle.cell_columns.specs.Cells.{Column, column_at, column_number, content_of, slot_at}
use Rattle.cell_columns.specs.Sheets.{AreSheets, IsFit}
use Rattle.cell_columns.specs.Uses.{formulas_in, use_of, uses_in}

-- a code with a use is live
pub live : (codes : Codes) (id : ℕ) → 1 ≤ uses_at codes id → IsLive codes id
live codes id h =
    elim (code_at codes id) as (λ o. 1 ≤ slot_uses o → IsSome o) [
      | Some code ↦ λ h. search
      | None ↦ λ h. absurd (omega (arith, h))
    ] h

pub number_in : (q : Place) → IsPlace q → column_number q < COLUMNS
number_in q is = omega (arith, is.sheet_in, is.col_from, is.col_to)

one : (id : ℕ) → use_of id (slot.Formula id) ≡ 1
one id = grind (arith, nat_tests)

within : (q : Place) → IsPlace q → (columns : List Column) → length columns ≡ COLUMNS → column_number q < length columns
within q is columns all = subst (λ n. column_number q < n) (sym all) (number_in q is)

module _ (columns : List Column) (all : length columns ≡ COLUMNS) (rows : (number : ℕ) → number < COLUMNS → length (column_at columns number) ≡ LAST_ROW) where
  row_in : (q : Place) → IsPlace q → q.row - 1 < length (column_at columns (column_number q))
  row_in q is = subst (λ n. q.row - 1 < n) (sym (rows (column_number q) (number_in q is))) (omega (arith, is.row_from, is.row_to))

  -- the code of a formula that stands in a cell has a use
  pub stands : (q : Place) → IsPlace q → (id : ℕ) → slot_at columns q ≡ slot.Formula id → 1 ≤ uses_in id columns
  stands q is id here =
      let c : Column = column_at columns (column_number q) in
      let row : use_of id (slot_at columns q) ≤ sum_by (use_of id) c =
      get_or-le-sum_by (use_of id) c (q.row - 1) slot.Empty (row_in q is) in
      let column : sum_by (use_of id) c ≤ uses_in id columns =
      get_or-le-sum_by (λ c. sum_by (use_of id) c) columns (column_number q) [] (within q is columns all) in
      let counted : use_of id (slot_at columns q) ≡ 1 = ap (use_of id) here ∙ one id in
      omega (arith, row, column, counted)

module _ (old new : Codes) (before after : List Column) (was : AreSheets old before) (forms : (id : ℕ) → IsLive old id → IsLive new id → form_at new id ≡ form_at old id) (all : length after ≡ COLUMNS) (rows : (number : ℕ) → number < COLUMNS → length (column_at after number) ≡ LAST_ROW) (used : (id : ℕ) → uses_at new id ≡ uses_in id after) where
  live_after : (q : Place) → IsPlace q → (id : ℕ) → slot_at after q ≡ slot.Formula id → IsLive new id
  live_after q is id here = live new id (subst (λ n. 1 ≤ n) (sym (used id)) (stands after all rows q is id here))

  -- a cell whose slot stays holds what it held
  pub same_content : (q : Place) → IsPlace q → slot_at after q ≡ slot_at before q → content_of new q (slot_at after q) ≡ content_of old q (slot_at before q)
  same_content q is same =
      ap (content_of new q) same
      ∙ elim (slot_at before q) as (λ x. slot_at before q ≡ x → content_of new q x ≡ content_of old q x) [
        | slot.Empty ↦ λ _. refl
        | slot.Number n ↦ λ _. refl
        | slot.Words text ↦ λ _. refl
        | slot.Bad fault ↦ λ _. refl
        | slot.Raw text ↦ λ _. refl
        | slot.Formula id ↦ λ here. ap (λ form. content.Formula (absolute q form)) (forms id (was.coded q is id here).live (live_after q is id (same ∙ here)))
      ] refl

  same_code : (q : Place) → IsPlace q → slot_at after q ≡ slot_at before q → (id : ℕ) → slot_at after q ≡ slot.Formula id → IsCodeAt new id q
  same_code q is same id here =
      let at : IsCodeAt old id q = was.coded q is id (sym same ∙ here) in
      let now : IsLive new id = live_after q is id here in
      record {
        live = now;
        valid = subst (λ form. has_valid_references (absolute q form) ≡ true) (sym (forms id at.live now)) at.valid;
      }

  pub still_sheets : ((q : Place) → IsPlace q → (slot_at after q ≡ slot_at before q) ⊎ IsFit new q (slot_at after q)) → total_uses new ≡ formulas_in after → AreSheets new after
  still_sheets each total = record {
    all_columns = all;
    all_rows = rows;
    coded = λ q is id here. elim (each q is) as (λ _. IsCodeAt new id q) [
      | inl same ↦ same_code q is same id here
      | inr put ↦ put.coded id here
    ];
    fit = λ q is filled. elim (each q is) as (λ _. is_content (content_of new q (slot_at after q)) ≡ true) [
      | inl same ↦ subst (λ c. is_content c ≡ true) (sym (same_content q is same)) (was.fit q is (subst (λ x. is_filled x ≡ true) same filled))
      | inr put ↦ put.fit filled
    ];
    used = used;
    total = total;
  }
