-- Cells stay in their sheet where inserted rows push out none, and where rows are emptied before they are deleted.
use Rattle.std.proofs.Common.{◌≡◌, ◌≤◌, ◌+◌, ◌-◌, ◌&&◌, ◌||◌, ℕ, Bool, true, false, not, cond, nat_lt, [], ◌∷◌, map, Option, Some, None, refl, sym, ap, ◌∙◌, arith}
use Rattle.std.specs.List.{filter, list_all}
use Rattle.std.specs.Ordering.{eq_by_cmp}
use Rattle.std.specs.FinMap.Entries.{find, find-where_key}
use Rattle.std.proofs.lemmas.Bool.{eq-eqb}
use Rattle.std.proofs.lemmas.Bool.Decides.{nat_tests}
use Rattle.calc_addr.specs.declared.cell.TheConstants.{LAST_COL, LAST_ROW}
use Rattle.calc_addr.specs.Places.{IsPlace, Place, Rectangle, covers, place_cmp}
use Rattle.calc_addr.specs.Shifts.{is_deleted, row_after_insertion}
use Rattle.calc_model.specs.declared.change.Change.TheVariants.{Deleted, Inserted}
use Rattle.calc_model.specs.declared.content.Content.{Content}
use Rattle.calc_model.specs.Books.{content_at, is_cell_entry, is_content, is_place}
use Rattle.calc_model.specs.CellEdits.{CellEntries, without_area}
use Rattle.calc_model.specs.Homes.{home_after_deletion, home_after_insertion}
use Rattle.calc_model.specs.RowEdits.{cells_after_deletion, cells_after_insertion, is_in_rows, is_pushed_out, shifted_entry}
use Rattle.calc_model.specs.TreeShifts.{tree_after_deletion}
use Rattle.calc_model.proofs.Areas.{both_true}
use Rattle.calc_model.proofs.Places.{exact_places, same_places}
use Rattle.cell_columns.specs.Cells.{cells_only}
use Rattle.cell_columns.specs.Shifted.{AllStayIn, shifted}
use Rattle.cell_columns.proofs.Restored.{found_held}
use Rattle.cell_columns.proofs.Told.{tested_place}

module _ (sheet place count : ℕ) where
  none_found : (es : CellEntries) → is_pushed_out sheet place count es ≡ false → (q : Place) (c : Content) → find place_cmp q es ≡ Some c → nat_lt LAST_ROW (home_after_insertion sheet place count q).row ≡ false
  none_found [] none q c found = cc
  none_found (e ∷ es) none q c found =
      let parts = neither (nat_lt LAST_ROW (home_after_insertion sheet place count e.0).row) (is_pushed_out sheet place count es) none in
      elim (eq_by_cmp place_cmp q e.0) as (λ b. eq_by_cmp place_cmp q e.0 ≡ b → cond b (Some e.1) (find place_cmp q es) ≡ Some c → nat_lt LAST_ROW (home_after_insertion sheet place count q).row ≡ false) [
        | true ↦ λ same _. ap (λ p. nat_lt LAST_ROW (home_after_insertion sheet place count p).row) (same_places q e.0 same) ∙ parts.0
        | false ↦ λ _ found. none_found es parts.1 q c found
      ] refl found
    where
      neither : (b c : Bool) → (b || c) ≡ false → (b ≡ false) × (c ≡ false)
      neither true c h = cc
      neither false c h = (refl, h)

  pub inserted_stay : (es : CellEntries) → is_pushed_out sheet place count es ≡ false → AllStayIn (Inserted sheet place count) es
  inserted_stay es none q is held on =
      let low : nat_lt LAST_ROW (home_after_insertion sheet place count q).row ≡ false = none_found es none q (content_at (cells_only es) q) (found_held es q held) in
      let moved : (home_after_insertion sheet place count q).row ≡ row_after_insertion place count q.row = ap (λ b. (cond b (record q { row = row_after_insertion place count q.row }) q).row) (eq-eqb q.sheet sheet on) in
      let at : nat_lt LAST_ROW (row_after_insertion place count q.row) ≡ false = ap (nat_lt LAST_ROW) (sym moved) ∙ low in
      grind (arith, nat_tests, at)

  pub insertion_is : (es : CellEntries) → shifted (Inserted sheet place count) es ≡ cells_after_insertion sheet place count es
  unfolding shifted cells_after_insertion
  insertion_is es = refl

  -- the rows of the sheet that are deleted
  abbrev pub rows_area : Rectangle
  rows_area = record { sheet = sheet; first_col = 1; last_col = LAST_COL; first_row = place; last_row = place + count - 1 }

  covered_rows : (q : Place) → IsPlace q → 1 ≤ place → 1 ≤ count → covers rows_area q ≡ is_in_rows sheet place count q
  covered_rows q is from some = grind (arith, nat_tests, is.col_from, is.col_to, from, some)

  pub cleared_stay : (es : CellEntries) → 1 ≤ place → 1 ≤ count → AllStayIn (Deleted sheet place count) (without_area es rows_area)
  cleared_stay es from some q is held on =
      let found : find place_cmp q (without_area es rows_area) ≡ Some (content_at (cells_only (without_area es rows_area)) q) = found_held (without_area es rows_area) q held in
      let kept : find place_cmp q (without_area es rows_area) ≡ cond (not (covers rows_area q)) (find place_cmp q es) None = find-where_key place_cmp (λ p. not (covers rows_area p)) q (λ p tied. ap (λ r. not (covers rows_area r)) (sym (exact_places q p tied))) es in
      let out : covers rows_area q ≡ false = passed (covers rows_area q) (find place_cmp q es) _ (sym kept ∙ found) in
      ap (λ b. b && is_deleted place count q.row) (sym (eq-eqb q.sheet sheet on)) ∙ sym (covered_rows q is from some) ∙ out
    where
      passed : (b : Bool) (o : Option Content) (c : Content) → cond (not b) o None ≡ Some c → b ≡ false
      passed true o c h = cc
      passed false o c h = refl

  left_alike : (es : CellEntries) → list_all is_cell_entry es ≡ true → 1 ≤ place → 1 ≤ count → without_area es rows_area ≡ filter (λ e. not (is_in_rows sheet place count e.0)) es
  left_alike [] held from some = refl
  left_alike (e ∷ es) held from some =
      let parts = both_true (is_cell_entry e) (list_all is_cell_entry es) held in
      let entry = both_true (is_place e.0) (is_content e.1) parts.0 in
      ap (λ b. cond (not b) (e ∷ without_area es rows_area) (without_area es rows_area)) (covered_rows e.0 (tested_place e.0 entry.0) from some)
      ∙ ap (λ (rest : CellEntries). cond (not (is_in_rows sheet place count e.0)) (e ∷ rest) rest) (left_alike es parts.1 from some)

  pub deletion_is : (es : CellEntries) → list_all is_cell_entry es ≡ true → 1 ≤ place → 1 ≤ count → shifted (Deleted sheet place count) (without_area es rows_area) ≡ cells_after_deletion sheet place count es
  unfolding shifted cells_after_deletion
  deletion_is es held from some =
      ap (λ (es : CellEntries). map (shifted_entry (home_after_deletion sheet place count) (λ home. tree_after_deletion home sheet place count)) es) (left_alike es held from some)
