-- Rows of a column that are emptied.
use Rattle.std.proofs.Common.{◌≡◌, ◌≢◌, ℕ, ◌+◌, ◌-◌, ◌≤◌, ◌<◌, ◌&&◌, nat_le, nat_lt, not, Bool, true, false, cond, List, length, take, drop, replicate, None, unwrap_or, refl, sym, ap, subst, ◌∙◌, ◌⊎◌, inl, inr, arith}
use Rattle.std.specs.Prelude.{slice_index_or}
use Rattle.std.specs.List.{filter}
use Rattle.std.specs.FinMap.Entries.{find, find-where_key}
use Rattle.std.proofs.lemmas.Bool.Decides.{nat_tests}
use Rattle.std.proofs.lemmas.List.{length-replicate}
use Rattle.calc_addr.specs.declared.cell.TheConstants.{LAST_ROW}
use Rattle.calc_addr.specs.Places.{IsPlace, Place, place_cmp}
use Rattle.calc_model.specs.declared.content.Content.TheVariants.{Empty}
use Rattle.calc_model.specs.declared.limits.TheConstants.{MOST_CELLS}
use Rattle.calc_model.specs.Books.{IsBook, content_at, is_cell_entry}
use Rattle.calc_model.specs.CellEdits.{CellEntries}
use Rattle.calc_model.proofs.EntriesMoved.{all-filter, length-filter, sorted-filter}
use Rattle.calc_model.proofs.Places.{exact_places}
use Rattle.formula_code.specs.Codes.{Codes}
use Rattle.block_column.specs.declared.slot.Slot.{Slot}
use Rattle.block_column.specs.declared.slot.Slot.TheVariants as slot
use Rattle.kept_codes.specs.declared.cells.TheConstants.{COLUMNS}
use Rattle.cell_columns.specs.Cells.{Column, cells_of, cells_only, column_at, column_number, content_of, slot_at, with_rows}
use Rattle.cell_columns.specs.Emptied.{lies_in, without_rows}
use Rattle.cell_columns.specs.Sheets.{AreSheets}
use Rattle.cell_columns.specs.Taken.{AreReturned}
use Rattle.cell_columns.specs.Sheets.{IsFit}
use Rattle.cell_columns.proofs.Nothing.{each_of}
use Rattle.cell_columns.proofs.SetRows.{each_content, sheets_put}
use Rattle.cell_columns.proofs.Told.{holds, is_book, same_cells}
use Rattle.cell_columns.proofs.Uses.{taken_empty}

-- cells that don't pass hold nothing
pub filtered_content : (p : Place → Bool) (cells : CellEntries) (q : Place) → content_at (cells_only (filter (λ e. p e.0) cells)) q ≡ cond (p q) (content_at (cells_only cells) q) Empty
unfolding content_at
filtered_content p cells q =
    ap (λ o. unwrap_or o Empty) (find-where_key place_cmp p q (λ x same. ap p (sym (exact_places q x same))) cells)
    ∙ elim (p q) as (λ b. unwrap_or (cond b (find place_cmp q cells) None) Empty ≡ cond b (unwrap_or (find place_cmp q cells) Empty) Empty) [ true ↦ refl | false ↦ refl ]

filtered_book : (p : Place → Bool) (cells : CellEntries) → IsBook (cells_only cells) → IsBook (cells_only (filter (λ e. p e.0) cells))
filtered_book p cells is = record {
  cells_in_order = sorted-filter place_cmp p cells is.cells_in_order;
  cells_held = all-filter is_cell_entry (λ e. p e.0) cells is.cells_held;
  cells_in_limit = omega (arith, length-filter (λ e. p e.0) cells, is.cells_in_limit);
  names_in_order = refl;
  names_spelled = refl;
  names_in_limit = omega arith;
}

empty_at : (n i : ℕ) → slice_index_or (replicate n slot.Empty) i slot.Empty ≡ slot.Empty
empty_at n i = each_of (λ (x : Slot). x ≡ slot.Empty) n i slot.Empty slot.Empty refl refl

fit_empty : (codes : Codes) (q : Place) (x : Slot) → x ≡ slot.Empty → IsFit codes q x
fit_empty codes q x is = subst (IsFit codes q) (sym is) (record { coded = λ id clash. cc; fit = λ clash. cc })

length_replicate : (n : ℕ) → length (replicate n slot.Empty) ≡ n
length_replicate n = length-replicate n slot.Empty

module _ (old new : Codes) (before : List Column) (was : AreSheets old before) (few : length (cells_of old before) ≤ MOST_CELLS) (number : ℕ) (among : number < COLUMNS) (first last : ℕ) (from : 1 ≤ first) (order : first ≤ last) (to : last ≤ LAST_ROW) (returned : AreReturned old new (take (last + 1 - first) (drop (first - 1) (column_at before number)))) where
  abbrev n : ℕ
  n = last + 1 - first

  abbrev blank : Column
  blank = replicate n slot.Empty

  fits : first - 1 + length blank ≤ LAST_ROW
  fits = omega (arith, from, order, to, length_replicate n)

  returned_rows : AreReturned old new (take (length blank) (drop (first - 1) (column_at before number)))
  returned_rows = subst (λ k. AreReturned old new (take k (drop (first - 1) (column_at before number)))) (sym (length_replicate n)) returned

  fit_rows : (q : Place) → IsPlace q → column_number q ≡ number → first - 1 ≤ q.row - 1 → q.row - 1 < first - 1 + length blank → IsFit old q (slice_index_or blank (q.row - 1 - (first - 1)) slot.Empty)
  fit_rows q is column above below = fit_empty old q _ (empty_at n (q.row - 1 - (first - 1)))

  pub sheets_emptied : AreSheets new (with_rows before number (first - 1) (replicate (last + 1 - first) slot.Empty))
  sheets_emptied = sheets_put old old new before was number among (first - 1) blank fits (taken_empty old n) returned_rows fit_rows

  abbrev left : CellEntries
  left = without_rows number (number + 1) first last (cells_of old before)

  left_at : (q : Place) → content_at (cells_only left) q ≡ cond (not (lies_in number (number + 1) first last q)) (content_at (cells_only (cells_of old before)) q) Empty
  left_at q = filtered_content (λ p. not (lies_in number (number + 1) first last p)) (cells_of old before) q

  seen : (q : Place) → IsPlace q → content_at (cells_only left) q ≡ content_of new q (slot_at (with_rows before number (first - 1) blank) q)
  seen q is =
      each_content old old new before was number among (first - 1) blank fits (taken_empty old n) returned_rows fit_rows
      (λ q c. content_at (cells_only left) q ≡ c)
      (λ q is column above below.
      let inside : lies_in number (number + 1) first last q ≡ true = grind (arith, nat_tests, column, above, below, from, order, is.row_from, length_replicate n) in
      left_at q ∙ ap (λ b. cond (not b) (content_at (cells_only (cells_of old before)) q) Empty) inside ∙ sym (ap (content_of old q) (empty_at n (q.row - 1 - (first - 1)))))
      (λ q is outside.
      let out : lies_in number (number + 1) first last q ≡ false = elsewhere q is outside in
      left_at q ∙ ap (λ b. cond (not b) (content_at (cells_only (cells_of old before)) q) Empty) out ∙ holds old before q is)
      q is
    where
      elsewhere : (q : Place) → IsPlace q → (column_number q ≢ number) ⊎ ((q.row - 1 < first - 1) ⊎ (first - 1 + length blank ≤ q.row - 1)) → lies_in number (number + 1) first last q ≡ false
      elsewhere q is (inl other) = other_column (column_number q) other
        where
          other_column : (k : ℕ) → k ≢ number → (nat_le number k && nat_lt k (number + 1) && nat_le first q.row && nat_le q.row last) ≡ false
          other_column k apart = grind (arith, nat_tests, apart)
      elsewhere q is (inr (inl above)) = grind (arith, nat_tests, above, is.row_from, from)
      elsewhere q is (inr (inr behind)) = grind (arith, nat_tests, behind, is.row_from, from, order, length_replicate n)

  pub cells_emptied : cells_of new (with_rows before number (first - 1) (replicate (last + 1 - first) slot.Empty)) ≡ without_rows number (number + 1) first last (cells_of old before)
  cells_emptied =
      same_cells new (with_rows before number (first - 1) blank) sheets_emptied left
      (filtered_book (λ p. not (lies_in number (number + 1) first last p)) (cells_of old before) (is_book old before was few)) seen
