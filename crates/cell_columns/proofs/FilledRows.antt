-- Neighbouring rows of a column that are filled with copies of a slot.
use Rattle.std.proofs.Common.{◌≡◌, ◌≢◌, ℕ, ◌+◌, ◌-◌, ◌≤◌, ◌<◌, ◌/◌, ◌%◌, true, false, List, length, take, drop, replicate, refl, sym, ap, subst, ◌∙◌, ◌⊎◌, inl, inr, arith}
use Rattle.std.specs.Prelude.{slice_index_or}
use Rattle.std.specs.Ordering.{eq_by_cmp}
use Rattle.std.proofs.lemmas.List.{get_or-replicate, length-replicate}
use Rattle.calc_addr.specs.declared.cell.TheConstants.{LAST_ROW}
use Rattle.calc_addr.specs.Places.{IsPlace, Place, place_cmp}
use Rattle.calc_model.specs.declared.limits.TheConstants.{MOST_CELLS}
use Rattle.calc_model.specs.Books.{IsBook, content_at, is_content, is_place}
use Rattle.calc_model.specs.CellEdits.{CellEntries, with_entries}
use Rattle.calc_model.proofs.EntriesKept.{both_so}
use Rattle.calc_model.proofs.Places.{same_places}
use Rattle.run_tables.specs.Rows.{AreRows}
use Rattle.formula_code.specs.Codes.{Codes}
use Rattle.block_column.specs.declared.slot.Slot.{Slot}
use Rattle.block_column.specs.declared.slot.Slot.TheVariants as slot
use Rattle.block_column.specs.Kinds.{is_filled}
use Rattle.cell_columns.specs.Cells.{Column, cells_of, cells_only, column_at, column_number, content_of, slot_at, with_rows}
use Rattle.cell_columns.specs.Filled.{FitsRows, repeated}
use Rattle.cell_columns.specs.Sheets.{AreSheets, IsFit}
use Rattle.cell_columns.specs.Taken.{AreReplaced, AreReturned}
use Rattle.cell_columns.proofs.Edited.{number_in}
use Rattle.cell_columns.proofs.FilledCells.{filled_book, inside, outside}
use Rattle.cell_columns.proofs.SetRows.{code_kept, content_kept, each_content, sheets_put}
use Rattle.cell_columns.proofs.Told.{holds, is_book, place_is, place_test, same_cells}

-- a cell of the same column
pub in_column : (cell : Place) → IsPlace cell → (q : Place) → IsPlace q → column_number q ≡ column_number cell → q ≡ record { sheet = cell.sheet; col = cell.col; row = q.row }
in_column cell is q at column =
    let sheets : q.sheet ≡ cell.sheet = ap (λ (p : Place). p.sheet) (place_is q at) ∙ ap (λ k. (0 + k) / 1024) column ∙ sym (ap (λ (p : Place). p.sheet) (place_is cell is)) in
    let cols : q.col ≡ cell.col = ap (λ (p : Place). p.col) (place_is q at) ∙ ap (λ k. (0 + k) % 1024 + 1) column ∙ sym (ap (λ (p : Place). p.col) (place_is cell is)) in
    ap (λ s. let p : Place = record { sheet = s; col = q.col; row = q.row } in p) sheets ∙ ap (λ k. let p : Place = record { sheet = cell.sheet; col = k; row = q.row } in p) cols

module _ (old new : Codes) (before : List Column) (was : AreSheets old before) (cell : Place) (is : IsPlace cell) (last : ℕ) (rows : AreRows (cell.row + 1) last) (few : length (cells_of old before) + (last - cell.row) ≤ MOST_CELLS) (x : Slot) (filled : is_filled x ≡ true) (fits : FitsRows old cell (cell.row + 1) last x) where
  abbrev n : ℕ
  n = last + 1 - (cell.row + 1)

  abbrev a : ℕ
  a = cell.row + 1 - 1

  abbrev xs : Column
  xs = replicate n x

  long : length (replicate (last + 1 - (cell.row + 1)) x) ≡ last + 1 - (cell.row + 1)
  long = length-replicate n x

  abbrev number : ℕ
  number = column_number cell

  pub among : number < 16384
  among = number_in cell is

  room : a + length xs ≤ LAST_ROW
  room = omega (arith, rows.in_order, rows.to, long)

  module _ (replaced : AreReplaced old new (replicate (last + 1 - (cell.row + 1)) x) (take (last + 1 - (cell.row + 1)) (drop (cell.row + 1 - 1) (column_at before (column_number cell))))) where
    abbrev mid : Codes
    mid = replaced.between

    gone : AreReturned mid new (take (length xs) (drop a (column_at before number)))
    gone = subst (λ k. AreReturned mid new (take k (drop a (column_at before number)))) (sym long) replaced.returned

    fit_mid : (q : Place) → IsFit old q x → IsFit mid q x
    fit_mid q fit = record {
      coded = λ id formula. code_kept old mid replaced.taken.forms q id (fit.coded id formula) (replaced.taken.live id (fit.coded id formula).live);
      fit = λ filled. subst (λ c. is_content c ≡ true) (sym (same_mid q fit)) (fit.fit filled);
    }
      where
        same_mid : (q : Place) → IsFit old q x → content_of mid q x ≡ content_of old q x
        same_mid q fit = content_kept old mid replaced.taken.forms q x (λ id formula. ((fit.coded id formula).live, replaced.taken.live id (fit.coded id formula).live))

    same_mid : (q : Place) → IsFit old q x → content_of mid q x ≡ content_of old q x
    same_mid q fit = content_kept old mid replaced.taken.forms q x (λ id formula. ((fit.coded id formula).live, replaced.taken.live id (fit.coded id formula).live))

    slot_here : (q : Place) → a ≤ q.row - 1 → q.row - 1 < a + length xs → slice_index_or xs (q.row - 1 - a) slot.Empty ≡ x
    slot_here q from to = get_or-replicate n (q.row - 1 - a) x slot.Empty (omega (arith, from, to, long))

    fit_at : (q : Place) → IsPlace q → column_number q ≡ number → a ≤ q.row - 1 → q.row - 1 < a + length xs → IsFit old q x
    fit_at q at column from to = fits q at column (omega (arith, from, at.row_from)) (omega (arith, from, to, long, at.row_from))

    put : (q : Place) → IsPlace q → column_number q ≡ number → a ≤ q.row - 1 → q.row - 1 < a + length xs → IsFit mid q (slice_index_or xs (q.row - 1 - a) slot.Empty)
    put q at column from to = subst (IsFit mid q) (sym (slot_here q from to)) (fit_mid q (fit_at q at column from to))

    pub sheets_filled : AreSheets new (with_rows before (column_number cell) (cell.row + 1 - 1) (replicate (last + 1 - (cell.row + 1)) x))
    sheets_filled = sheets_put old mid new before was number among a xs room replaced.taken gone put

    abbrev full : CellEntries
    full = with_entries (cells_of old before) (repeated old cell (cell.row + 1) last x)

    -- a cell of the same column
    abbrev here : ℕ → Place
    here row = record { sheet = cell.sheet; col = cell.col; row = row }

    is_here : (row : ℕ) → cell.row + 1 ≤ row → row ≤ last → IsPlace (here row)
    is_here row from to = record { sheet_in = is.sheet_in; col_from = is.col_from; col_to = is.col_to; row_from = omega (arith, from); row_to = omega (arith, to, rows.to) }

    book : IsBook (cells_only full)
    book =
        filled_book (λ q. content_of old q x) cell.sheet cell.col n (cell.row + 1) (cells_of old before) (is_book old before was (omega (arith, few))) (omega (arith, few, rows.in_order))
        (λ row from to.
        let at : IsPlace (here row) = is_here row from (omega (arith, to, rows.in_order)) in
        both_so (is_place (here row)) (is_content (content_of old (here row) x)) (place_test (here row) at) ((fits (here row) at refl from (omega (arith, to, rows.in_order))).fit filled))

    seen : (q : Place) → IsPlace q → content_at (cells_only full) q ≡ content_of new q (slot_at (with_rows before number a xs) q)
    seen q at =
        each_content old mid new before was number among a xs room replaced.taken gone put
        (λ q c. content_at (cells_only full) q ≡ c)
        (λ q at column from to.
        subst (λ p. content_at (cells_only full) p ≡ content_of old p x) (sym (in_column cell is q at column))
        (inside (λ q. content_of old q x) cell.sheet cell.col n (cell.row + 1) (cells_of old before) q.row (omega (arith, from, at.row_from)) (omega (arith, from, to, long, at.row_from, rows.in_order)))
        ∙ sym (same_mid q (fit_at q at column from to))
        ∙ sym (ap (content_of mid q) (slot_here q from to)))
        (λ q at apart.
        outside (λ q. content_of old q x) cell.sheet cell.col n (cell.row + 1) (cells_of old before) q (elsewhere q at apart)
        ∙ holds old before q at)
        q at
      where
        elsewhere : (q : Place) → IsPlace q → (column_number q ≢ number) ⊎ ((q.row - 1 < a) ⊎ (a + length xs ≤ q.row - 1)) → (row : ℕ) → cell.row + 1 ≤ row → row < cell.row + 1 + n → eq_by_cmp place_cmp q (here row) ≡ false
        elsewhere q at apart row from to =
            elim (eq_by_cmp place_cmp q (here row)) as (λ b. eq_by_cmp place_cmp q (here row) ≡ b → b ≡ false) [
              | false ↦ λ _. refl
              | true ↦ λ same.
                  let equal : q ≡ here row = same_places q (here row) same in
                  absurd (clash apart (ap column_number equal) (ap (λ (p : Place). p.row) equal))
            ] refl
          where
            clash : (column_number q ≢ number) ⊎ ((q.row - 1 < a) ⊎ (a + length xs ≤ q.row - 1)) → column_number q ≡ number → q.row ≡ row → ⊥
            clash (inl other) column r = other column
            clash (inr (inl above)) column r = omega (arith, above, r, from)
            clash (inr (inr below)) column r = omega (arith, below, r, to, long)

    pub cells_filled : cells_of new (with_rows before (column_number cell) (cell.row + 1 - 1) (replicate (last + 1 - (cell.row + 1)) x)) ≡ with_entries (cells_of old before) (repeated old cell (cell.row + 1) last x)
    cells_filled = same_cells new (with_rows before number a xs) sheets_filled full book seen

    pub few_filled : length (cells_of new (with_rows before (column_number cell) (cell.row + 1 - 1) (replicate (last + 1 - (cell.row + 1)) x))) ≤ MOST_CELLS
    few_filled = omega (arith, ap length cells_filled, book.cells_in_limit)
