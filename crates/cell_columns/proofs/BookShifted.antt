-- Columns and codes are those of a book while the columns of a sheet go with a change of rows, one after the other.
use Rattle.std.proofs.Common.{◌≡◌, ◌≢◌, ℕ, suc, ◌+◌, ◌*◌, ◌-◌, ◌≤◌, ◌<◌, ◌==◌, ◌&&◌, nat_le, nat_lt, true, false, List, [], ◌∷◌, ◌++◌, length, map, ◌⊎◌, inl, inr, refl, sym, ap, subst, ◌∙◌, arith}
use Rattle.std.specs.Prelude.{◌/◌, sum_by}
use Rattle.std.proofs.lemmas.Bool.{eq-eqb}
use Rattle.std.proofs.lemmas.Bool.Decides.{Decides-eqb, nat_tests}
use Rattle.calc_addr.specs.declared.cell.TheConstants.{LAST_COL}
use Rattle.calc_addr.specs.Places.{IsPlace, Place}
use Rattle.calc_model.specs.declared.change.Change.{Change}
use Rattle.calc_model.specs.Books.{is_held}
use Rattle.calc_model.specs.CellEdits.{CellEntries}
use Rattle.calc_model.specs.Changes.{IsChange}
use Rattle.formula_code.specs.Codes.{Codes, form_at, tree_at}
use Rattle.formula_code.specs.Relative.{absolute, relative}
use Rattle.formula_code.proofs.Distances.{tree_back}
use Rattle.formula_code.proofs.FormsBack.{form_back}
use Rattle.block_column.specs.declared.slot.Slot.{Slot}
use Rattle.block_column.specs.declared.slot.Slot.TheVariants as slot
use Rattle.block_column.specs.Kinds.{is_filled}
use Rattle.block_column.specs.SlotRows.{SlotRows}
use Rattle.formula_groups.specs.GroupRows.{GroupRows}
use Rattle.kept_codes.specs.declared.cells.TheConstants.{COLUMNS}
use Rattle.kept_codes.specs.Columns.{cell_in}
use Rattle.cell_columns.specs.Cells.{Column, cells_below, cells_from, cells_of, column_at, column_number, content_of, slot_at}
use Rattle.cell_columns.specs.Lent.{AreColumns, codes_of, slots_of}
use Rattle.cell_columns.specs.Sheets.{AreSheets}
use Rattle.kept_codes.specs.RowChanges.{StaysIn, goes, sheet_of, tree_after}
use Rattle.cell_columns.specs.Shifted.{AllKeepForms, AllStayIn, PartlyMoved, rows_moved, shifted}
use Rattle.cell_columns.specs.Uses.{cell_of, codes_in, formula_of, summed, use_of}
use Rattle.cell_columns.proofs.Counted.{counted}
use Rattle.cell_columns.proofs.Edited.{number_in}
use Rattle.cell_columns.specs.Sheets.{IsFit}
use Rattle.cell_columns.proofs.ColumnShifted.{off_sheet, on_sheet}
use Rattle.cell_columns.proofs.RowParts.{Fits, Rows, row_at, shifted_append}
use Rattle.kept_codes.proofs.Going.{place_goes}
use Rattle.cell_columns.proofs.SheetShifted.{MovesWell, all_fit, held_filled, summed_alike}
use Rattle.cell_columns.proofs.Told.{holds, place_is}

module _ (codes : Codes) (change : Change) (rows : IsChange change) (before : List Column) (was : AreSheets codes before) (all_stay : AllStayIn change (cells_of codes before)) (all_keep : AllKeepForms change (cells_of codes before)) where
  stays : (q : Place) → IsPlace q → is_filled (slot_at before q) ≡ true → StaysIn change q
  stays q is filled = all_stay q is (ap is_held (holds codes before q is) ∙ held_filled codes q (slot_at before q) ∙ filled)

  keeps : (q : Place) → IsPlace q → (id : ℕ) → slot_at before q ≡ slot.Formula id → tree_at codes id (goes change q) ≡ tree_after change q (tree_at codes id q)
  keeps q is id here =
      let tree = tree_at codes id q in
      let to : IsPlace (goes change q) = place_goes change rows q is (stays q is (ap is_filled here)) in
      let kept : relative (goes change q) (tree_after change q tree) ≡ form_at codes id =
      all_keep q is tree (holds codes before q is ∙ ap (content_of codes q) here) ∙ form_back q (form_at codes id) (was.coded q is id here).valid in
      ap (absolute (goes change q)) (sym kept) ∙ tree_back (goes change q) (tree_after change q tree) to

  -- what each column keeps
  record StillWell (n : ℕ) (d : Column) : Type 1 where
    fits : Rows (Fits codes n change) 1 d
    sums : (f : Slot → ℕ) → f slot.Empty ≡ 0 → sum_by f d ≡ sum_by f (column_at before n)
    long : length d ≡ length (column_at before n)

  moved_well : (n : ℕ) (among : n < COLUMNS) → n / LAST_COL ≡ sheet_of change → MovesWell codes change rows before was stays keeps n among (rows_moved change slot.Empty (column_at before n))
  moved_well n among on = on_sheet codes change rows before was stays keeps n among on

  module _ (after : List Column) (from k : ℕ) (from_is : from ≡ sheet_of change * LAST_COL) (to : k ≤ from + LAST_COL) (part : PartlyMoved change before after from k) where
    on_it : (n : ℕ) → from ≤ n → n < k → n / LAST_COL ≡ sheet_of change
    on_it n low high = omega (arith, from_is, to, low, high)

    each : (n : ℕ) → n < COLUMNS → StillWell n (column_at after n)
    each n among =
        elim (nat_le from n && nat_lt n k) as (λ b. (nat_le from n && nat_lt n k) ≡ b → StillWell n (column_at after n)) [
          | true ↦ λ in_it.
              let low : from ≤ n = grind (arith, nat_tests, in_it) in
              let high : n < k = grind (arith, nat_tests, in_it) in
              let well = moved_well n among (on_it n low high) in
              subst (StillWell n) (sym (part.moved n low high (subst (λ m. n < m) (sym was.all_columns) among))) (record { fits = well.fits; sums = well.sums; long = well.long })
          | false ↦ λ out.
              subst (StillWell n) (sym (part.others n (outside (grind (arith, nat_tests, out)))))
              (record { fits = all_fit codes change rows before was stays keeps n among; sums = λ f none. refl; long = refl })
        ] refl
      where
        outside : (from ≤ n → n < k → ⊥) → (n < from) ⊎ (k ≤ n)
        outside lies =
            elim (nat_lt n from) as (λ b. nat_lt n from ≡ b → (n < from) ⊎ (k ≤ n)) [
              | true ↦ λ h. inl (grind (arith, nat_tests, h))
              | false ↦ λ h. inr (elim (nat_lt n k) as (λ b. nat_lt n k ≡ b → k ≤ n) [
                | true ↦ λ less. absurd (lies (grind (arith, nat_tests, h)) (grind (arith, nat_tests, less)))
                | false ↦ λ more. grind (arith, nat_tests, more)
              ] refl)
            ] refl

    sums_alike : (f : Slot → ℕ) → f slot.Empty ≡ 0 → summed f after ≡ summed f before
    sums_alike f none = summed_alike f before after part.all (λ n h. (each n (subst (λ m. n < m) was.all_columns h)).sums f none)

    fit_at : (q : Place) → IsPlace q → IsFit codes q (slot_at after q)
    fit_at q is =
        let n : ℕ = column_number q in
        let among : n < COLUMNS = number_in q is in
        let well = each n among in
        let long : q.row - 1 < length (column_at after n) = subst (λ m. q.row - 1 < m) (sym (well.long ∙ was.all_rows n among)) (omega (arith, is.row_from, is.row_to)) in
        subst (λ p. IsFit codes p (slot_at after q)) (sym (place_is q is ∙ ap (λ m. cell_in m (1 + (q.row - 1))) (from_none n))) (row_at (Fits codes n change) 1 (column_at after n) well.fits (q.row - 1) long)
      where
        from_none : (m : ℕ) → 0 + m ≡ m
        from_none m = omega arith

    pub sheets_after : AreSheets codes after
    sheets_after = record {
      all_columns = part.all ∙ was.all_columns;
      all_rows = λ n among. (each n among).long ∙ was.all_rows n among;
      coded = λ q is id here. (fit_at q is).coded id here;
      fit = λ q is filled. (fit_at q is).fit filled;
      used = λ id. was.used id ∙ sym (sums_alike (use_of id) refl);
      total = was.total ∙ sym (sums_alike formula_of refl);
    }

    pub many_after : length (cells_of codes after) ≡ length (cells_of codes before)
    many_after = counted codes after ∙ sums_alike cell_of refl ∙ sym (counted codes before)

  cells_each : (m : ℕ) (cs ds : List Column) → length ds ≡ length cs → ((j : ℕ) → j < length cs → cells_below codes (m + j) 1 (column_at ds j) ≡ shifted change (cells_below codes (m + j) 1 (column_at cs j))) → cells_from codes m ds ≡ shifted change (cells_from codes m cs)
  unfolding shifted
  cells_each m [] [] long well = refl
  cells_each m [] (d ∷ ds) long well = absurd (omega (arith, long))
  cells_each m (c ∷ cs) [] long well = absurd (omega (arith, long))
  cells_each m (c ∷ cs) (d ∷ ds) long well =
      ap (λ (es : CellEntries). es ++ cells_from codes (m + 1) ds) (subst (λ n. cells_below codes n 1 d ≡ shifted change (cells_below codes n 1 c)) (same m) (well 0 (omega arith)))
      ∙ ap (λ (es : CellEntries). shifted change (cells_below codes m 1 c) ++ es) (cells_each (m + 1) cs ds (omega (arith, long)) (λ j h. subst (λ n. cells_below codes n 1 (column_at ds j) ≡ shifted change (cells_below codes n 1 (column_at cs j))) (next m j) (well (suc j) (omega (arith, h)))))
      ∙ sym (shifted_append codes m change (cells_below codes m 1 c) (cells_from codes (m + 1) cs))
    where
      same : (m : ℕ) → m + 0 ≡ m
      same m = omega arith

      next : (m j : ℕ) → m + suc j ≡ m + 1 + j
      next m j = omega arith

  -- all columns of the sheet went
  pub cells_after : (after : List Column) (from : ℕ) → from ≡ sheet_of change * LAST_COL → PartlyMoved change before after from (from + LAST_COL) → cells_of codes after ≡ shifted change (cells_of codes before)
  unfolding cells_of
  cells_after after from from_is part = cells_each 0 before after part.all (λ j h. column j (subst (λ m. j < m) was.all_columns h))
    where
      column : (n : ℕ) → n < COLUMNS → cells_below codes (0 + n) 1 (column_at after n) ≡ shifted change (cells_below codes (0 + n) 1 (column_at before n))
      column n among =
          subst (λ m. cells_below codes m 1 (column_at after n) ≡ shifted change (cells_below codes m 1 (column_at before n))) (from_none n)
          (elim ((n / LAST_COL) == sheet_of change) as (λ b. ((n / LAST_COL) == sheet_of change) ≡ b → cells_below codes n 1 (column_at after n) ≡ shifted change (cells_below codes n 1 (column_at before n))) [
            | true ↦ λ on.
                let at : n / LAST_COL ≡ sheet_of change = (Decides-eqb (n / LAST_COL) (sheet_of change)).0 on in
                ap (cells_below codes n 1) (part.moved n (omega (arith, at, from_is)) (omega (arith, at, from_is)) (subst (λ m. n < m) (sym was.all_columns) among))
                ∙ (moved_well n among at).cells
            | false ↦ λ off.
                let apart : n / LAST_COL ≢ sheet_of change = λ same. absurd (differ same off) in
                ap (cells_below codes n 1) (part.others n (outside apart))
                ∙ (off_sheet codes change rows before was stays keeps n among off).cells
          ] refl)
        where
          from_none : (m : ℕ) → m ≡ 0 + m
          from_none m = omega arith

          differ : n / LAST_COL ≡ sheet_of change → ((n / LAST_COL) == sheet_of change) ≡ false → ⊥
          differ same off = let on = eq-eqb (n / LAST_COL) (sheet_of change) same in cc

          outside : n / LAST_COL ≢ sheet_of change → (n < from) ⊎ (from + LAST_COL ≤ n)
          outside apart =
              elim (nat_lt n from) as (λ b. nat_lt n from ≡ b → (n < from) ⊎ (from + LAST_COL ≤ n)) [
                | true ↦ λ h. inl (grind (arith, nat_tests, h))
                | false ↦ λ h. inr (elim (nat_lt n (from + LAST_COL)) as (λ b. nat_lt n (from + LAST_COL) ≡ b → from + LAST_COL ≤ n) [
                  | true ↦ λ less. absurd (apart (between (grind (arith, nat_tests, h)) (grind (arith, nat_tests, less))))
                  | false ↦ λ more. grind (arith, nat_tests, more)
                ] refl)
              ] refl
            where
              between : from ≤ n → n < from + LAST_COL → n / LAST_COL ≡ sheet_of change
              between low high = omega (arith, low, high, from_is)

-- columns that partly went, with the groups of their formulas
pub still_columns : (codes : Codes) (change : Change) → IsChange change → (columns after : List SlotRows) (groups groups_after : List GroupRows) (len from k : ℕ) → AreColumns codes columns groups len → AllStayIn change (cells_of codes (slots_of columns)) → AllKeepForms change (cells_of codes (slots_of columns)) → from ≡ sheet_of change * LAST_COL → k ≤ from + LAST_COL → PartlyMoved change (slots_of columns) (slots_of after) from k → codes_of groups_after ≡ map codes_in (slots_of after) → AreColumns codes after groups_after len
still_columns codes change rows columns after groups groups_after len from k was all_stay all_keep from_is to part grouped =
    let many = many_after codes change rows (slots_of columns) was.sheets all_stay all_keep (slots_of after) from k from_is to part in
    record {
      sheets = sheets_after codes change rows (slots_of columns) was.sheets all_stay all_keep (slots_of after) from k from_is to part;
      grouped = grouped;
      few = omega (arith, many, was.few);
      counted = was.counted ∙ sym many;
    }
