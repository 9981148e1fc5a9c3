-- Cells that inserted rows push out of the sheet.
use Rattle.std.proofs.Common.{◌≡◌, ℕ, suc, ◌+◌, ◌-◌, ◌||◌, nat_lt, max, true, false, cond, [], ◌∷◌, length, refl, ap, ◌∙◌, arith}
use Rattle.std.specs.List.{list_all}
use Rattle.std.proofs.lemmas.Bool.Decides.{nat_tests}
use Rattle.calc_addr.specs.declared.cell.TheConstants.{LAST_COL, LAST_ROW}
use Rattle.calc_addr.specs.Places.{IsPlace, Place, Rectangle, covers}
use Rattle.calc_model.specs.Books.{is_cell_entry, is_content, is_place}
use Rattle.calc_model.specs.CellEdits.{CellEntries, within_area}
use Rattle.calc_model.specs.Homes.{home_after_insertion}
use Rattle.calc_model.specs.RowEdits.{is_pushed_out}
use Rattle.calc_model.proofs.Areas.{both_true}
use Rattle.cell_columns.proofs.Told.{tested_place}

-- the last rows of the sheet, from the place on, which so many rows push out
abbrev pub last_rows : ℕ → ℕ → ℕ → Rectangle
last_rows sheet place count = record { sheet = sheet; first_col = 1; last_col = LAST_COL; first_row = max place (LAST_ROW + 1 - count); last_row = LAST_ROW }

module _ (sheet place count : ℕ) where
  leaves : (q : Place) → IsPlace q → nat_lt LAST_ROW (home_after_insertion sheet place count q).row ≡ covers (last_rows sheet place count) q
  leaves q is = grind (arith, nat_tests, is.col_from, is.col_to, is.row_from, is.row_to)

  pub by_count : (es : CellEntries) → list_all is_cell_entry es ≡ true → is_pushed_out sheet place count es ≡ nat_lt 0 (length (within_area es (last_rows sheet place count)))
  by_count [] held = refl
  by_count (e ∷ es) held =
      let parts = both_true (is_cell_entry e) (list_all is_cell_entry es) held in
      let place_is = both_true (is_place e.0) (is_content e.1) parts.0 in
      let rest : CellEntries = within_area es (last_rows sheet place count) in
      ap (λ b. b || is_pushed_out sheet place count es) (leaves e.0 (tested_place e.0 place_is.0))
      ∙ elim (covers (last_rows sheet place count) e.0) as (λ b. (b || is_pushed_out sheet place count es) ≡ nat_lt 0 (length (cond b (e ∷ rest) rest))) [
        | true ↦ more (length rest)
        | false ↦ by_count es parts.1
      ]
    where
      more : (n : ℕ) → true ≡ nat_lt 0 (suc n)
      more n = grind (arith, nat_tests)
