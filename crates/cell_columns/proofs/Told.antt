-- The cells of columns are those of a book, which the slots of its cells decide.
use Rattle.std.proofs.Common.{◌≡◌, ℕ, suc, ◌+◌, ◌-◌, ◌≤◌, ◌<◌, Bool, true, false, cond, List, [], ◌∷◌, ◌++◌, length, Option, Some, None, unwrap_or, refl, sym, ap, subst, ◌∙◌, T, arith}
use Rattle.std.specs.Prelude.{slice_index_or}
use Rattle.std.specs.List.{list_all}
use Rattle.std.specs.Ordering.{eq_by_cmp}
use Rattle.std.specs.FinMap.Entries.{find, same_entries}
use Rattle.std.proofs.lemmas.Bool.Decides.{nat_tests}
use Rattle.calc_addr.specs.declared.cell.TheConstants.{LAST_ROW}
use Rattle.calc_addr.specs.Places.{IsPlace, Place, place_cmp}
use Rattle.calc_model.specs.declared.content.Content.{Content}
use Rattle.calc_model.specs.declared.content.Content.TheVariants as content
use Rattle.calc_model.specs.declared.limits.TheConstants.{MOST_CELLS}
use Rattle.calc_model.specs.Books.{IsBook, content_at, is_cell_entry, is_content, is_place}
use Rattle.calc_model.specs.CellEdits.{CellEntries}
use Rattle.calc_model.proofs.Areas.{both_true}
use Rattle.calc_model.proofs.EntriesKept.{both_so}
use Rattle.calc_model.proofs.Places.{exact_places, places_total, same_places}
use Rattle.formula_code.specs.Codes.{Codes}
use Rattle.block_column.specs.declared.slot.Slot.{Slot}
use Rattle.block_column.specs.declared.slot.Slot.TheVariants as slot
use Rattle.block_column.specs.Kinds.{is_filled}
use Rattle.kept_codes.specs.declared.cells.TheConstants.{COLUMNS}
use Rattle.kept_codes.specs.Columns.{cell_in}
use Rattle.cell_columns.specs.Cells.{Column, cells_below, cells_from, cells_of, cells_only, column_at, column_number, content_of, slot_at}
use Rattle.cell_columns.specs.Sheets.{AreSheets}
use Rattle.cell_columns.proofs.Orders.{in_order}
use Rattle.cell_columns.proofs.Found.{in_column, shown}

pub place_is : (q : Place) → IsPlace q → q ≡ cell_in (0 + column_number q) (1 + (q.row - 1))
place_is q is =
    exact_places q (cell_in (0 + column_number q) (1 + (q.row - 1))) (grind (arith, nat_tests, is.sheet_in, is.col_from, is.col_to, is.row_from, is.row_to))

pub found : (codes : Codes) (columns : List Column) (q : Place) → IsPlace q → find place_cmp q (cells_of codes columns) ≡ shown codes q (slot_at columns q)
unfolding cells_of
found codes columns q is = in_column codes 0 (column_number q) (q.row - 1) q (place_is q is) columns

pub holds : (codes : Codes) (columns : List Column) (q : Place) → IsPlace q → content_at (cells_only (cells_of codes columns)) q ≡ content_of codes q (slot_at columns q)
unfolding content_at
holds codes columns q is =
    ap (λ o. unwrap_or o content.Empty) (found codes columns q is)
    ∙ elim (slot_at columns q) as (λ x. unwrap_or (shown codes q x) content.Empty ≡ content_of codes q x) [
      | slot.Empty ↦ refl
      | slot.Number n ↦ refl
      | slot.Words text ↦ refl
      | slot.Bad fault ↦ refl
      | slot.Raw text ↦ refl
      | slot.Formula id ↦ refl
    ]

no_number : (n : ℕ) → n ≡ 0 + n
no_number n = omega arith

same_number : (n : ℕ) → n + 0 ≡ n
same_number n = omega arith

next_number : (n j : ℕ) → n + suc j ≡ n + 1 + j
next_number n j = omega arith

module _ (codes : Codes) where
  entries_below : (number row : ℕ) (xs : Column) → ((i : ℕ) → i < length xs → is_filled (slice_index_or xs i slot.Empty) ≡ true → is_cell_entry (cell_in number (row + i), content_of codes (cell_in number (row + i)) (slice_index_or xs i slot.Empty)) ≡ true) → list_all is_cell_entry (cells_below codes number row xs) ≡ true
  entries_below number row [] each = refl
  entries_below number row (x ∷ xs) each =
      let rest : CellEntries = cells_below codes number (row + 1) xs in
      let first : is_filled x ≡ true → is_cell_entry (cell_in number row, content_of codes (cell_in number row) x) ≡ true =
      λ filled. subst (λ r. is_cell_entry (cell_in number r, content_of codes (cell_in number r) x) ≡ true) (same_number row) (each 0 (omega arith) filled) in
      let behind : list_all is_cell_entry rest ≡ true =
      entries_below number (row + 1) xs (λ i h filled. subst (λ r. is_cell_entry (cell_in number r, content_of codes (cell_in number r) (slice_index_or xs i slot.Empty)) ≡ true) (next_number row i) (each (suc i) (omega (arith, h)) filled)) in
      elim (is_filled x) as (λ b. is_filled x ≡ b → list_all is_cell_entry (cond b ((cell_in number row, content_of codes (cell_in number row) x) ∷ rest) rest) ≡ true) [
        | true ↦ λ filled. both_so _ _ (first filled) behind
        | false ↦ λ _. behind
      ] refl

  all-append : (es fs : CellEntries) → list_all is_cell_entry es ≡ true → list_all is_cell_entry fs ≡ true → list_all is_cell_entry (es ++ fs) ≡ true
  all-append [] fs h k = k
  all-append (e ∷ es) fs h k =
      let parts = both_true (is_cell_entry e) (list_all is_cell_entry es) h in
      both_so _ _ parts.0 (all-append es fs parts.1 k)

  entries_from : (number : ℕ) (cs : List Column) → ((j i : ℕ) → j < length cs → i < length (column_at cs j) → is_filled (slice_index_or (column_at cs j) i slot.Empty) ≡ true → is_cell_entry (cell_in (number + j) (1 + i), content_of codes (cell_in (number + j) (1 + i)) (slice_index_or (column_at cs j) i slot.Empty)) ≡ true) → list_all is_cell_entry (cells_from codes number cs) ≡ true
  entries_from number [] each = refl
  entries_from number (c ∷ cs) each =
      all-append (cells_below codes number 1 c) (cells_from codes (number + 1) cs)
      (entries_below number 1 c (λ i h filled. subst (λ n. is_cell_entry (cell_in n (1 + i), content_of codes (cell_in n (1 + i)) (slice_index_or c i slot.Empty)) ≡ true) (same_number number) (each 0 i (omega arith) h filled)))
      (entries_from (number + 1) cs (λ j i h k filled. subst (λ n. is_cell_entry (cell_in n (1 + i), content_of codes (cell_in n (1 + i)) (slice_index_or (column_at cs j) i slot.Empty)) ≡ true) (next_number number j) (each (suc j) i (omega (arith, h)) k filled)))

pub place_in : (j i : ℕ) → j < COLUMNS → i < LAST_ROW → IsPlace (cell_in j (1 + i))
place_in j i h k = record {
  sheet_in = omega (arith, h);
  col_from = omega arith;
  col_to = omega arith;
  row_from = omega arith;
  row_to = omega (arith, k);
}

pub row_behind : (i : ℕ) → 1 + i - 1 ≡ i
row_behind i = omega arith

pub number_of : (j i : ℕ) → column_number (cell_in j (1 + i)) ≡ j
number_of j i = omega arith

pub place_test : (q : Place) → IsPlace q → is_place q ≡ true
place_test q is = grind (arith, nat_tests, is.sheet_in, is.col_from, is.col_to, is.row_from, is.row_to)

pub tested_place : (q : Place) → is_place q ≡ true → IsPlace q
tested_place q h = record {
  sheet_in = grind (arith, nat_tests, h);
  col_from = grind (arith, nat_tests, h);
  col_to = grind (arith, nat_tests, h);
  row_from = grind (arith, nat_tests, h);
  row_to = grind (arith, nat_tests, h);
}

module _ (codes : Codes) (columns : List Column) (sheets : AreSheets codes columns) where
  entry_in : (j i : ℕ) → j < length columns → i < length (column_at columns j) → is_filled (slice_index_or (column_at columns j) i slot.Empty) ≡ true → is_cell_entry (cell_in j (1 + i), content_of codes (cell_in j (1 + i)) (slice_index_or (column_at columns j) i slot.Empty)) ≡ true
  entry_in j i h k filled =
      let among : j < COLUMNS = subst (λ n. j < n) sheets.all_columns h in
      let q : Place = cell_in j (1 + i) in
      let is : IsPlace q = place_in j i among (subst (λ n. i < n) (sheets.all_rows j among) k) in
      let here : slot_at columns q ≡ slice_index_or (column_at columns j) i slot.Empty = ap (λ n. slice_index_or (column_at columns n) (1 + i - 1) slot.Empty) (number_of j i) ∙ ap (λ r. slice_index_or (column_at columns j) r slot.Empty) (row_behind i) in
      both_so (is_place q) _ (place_test q is) (subst (λ x. is_content (content_of codes q x) ≡ true) here (sheets.fit q is (subst (λ x. is_filled x ≡ true) (sym here) filled)))

  pub entries_are : list_all is_cell_entry (cells_of codes columns) ≡ true
  unfolding cells_of
  entries_are = entries_from codes 0 columns (λ j i h k filled. subst (λ n. is_cell_entry (cell_in n (1 + i), content_of codes (cell_in n (1 + i)) (slice_index_or (column_at columns j) i slot.Empty)) ≡ true) (no_number j) (entry_in j i h k filled))

  pub is_book : length (cells_of codes columns) ≤ MOST_CELLS → IsBook (cells_only (cells_of codes columns))
  is_book few = record {
    cells_in_order = in_order codes columns;
    cells_held = entries_are;
    cells_in_limit = few;
    names_in_order = refl;
    names_spelled = refl;
    names_in_limit = omega arith;
  }

pub entry_found : (es : CellEntries) → list_all is_cell_entry es ≡ true → (q : Place) (c : Content) → find place_cmp q es ≡ Some c → (is_place q ≡ true) × (is_content c ≡ true)
entry_found [] h q c is = cc
entry_found (e ∷ es) h q c is =
    let parts = both_true (is_cell_entry e) (list_all is_cell_entry es) h in
    elim (eq_by_cmp place_cmp q e.0) as (λ b. eq_by_cmp place_cmp q e.0 ≡ b → cond b (Some e.1) (find place_cmp q es) ≡ Some c → (is_place q ≡ true) × (is_content c ≡ true)) [
      | true ↦ λ same is.
          let entry = both_true (is_place e.0) (is_content e.1) parts.0 in
          (subst (λ p. is_place p ≡ true) (sym (same_places q e.0 same)) entry.0, subst (λ x. is_content x ≡ true) (same_some e.1 c is) entry.1)
      | false ↦ λ _ is. entry_found es parts.1 q c is
    ] refl is
  where
    same_some : (x y : Content) → Some x ≡ Some y → x ≡ y
    same_some x y h = ap (λ o. unwrap_or o x) h

-- what is found is what the slot is
found_alike : (codes : Codes) (q : Place) (x : Slot) (o : Option Content) → ((c : Content) → o ≡ Some c → is_content c ≡ true) → unwrap_or o content.Empty ≡ content_of codes q x → o ≡ shown codes q x
found_alike codes q slot.Empty None held same = refl
found_alike codes q (slot.Number n) None held same = cc
found_alike codes q (slot.Words text) None held same = cc
found_alike codes q (slot.Bad fault) None held same = cc
found_alike codes q (slot.Raw text) None held same = cc
found_alike codes q (slot.Formula id) None held same = cc
found_alike codes q slot.Empty (Some c) held same = let is : is_content content.Empty ≡ true = subst (λ c. is_content c ≡ true) same (held c refl) in cc
found_alike codes q (slot.Number n) (Some c) held same = ap Some same
found_alike codes q (slot.Words text) (Some c) held same = ap Some same
found_alike codes q (slot.Bad fault) (Some c) held same = ap Some same
found_alike codes q (slot.Raw text) (Some c) held same = ap Some same
found_alike codes q (slot.Formula id) (Some c) held same = ap Some same

-- what isn't a place isn't found
no_place : (es : CellEntries) → list_all is_cell_entry es ≡ true → (q : Place) → is_place q ≡ false → find place_cmp q es ≡ None
no_place es h q not =
    elim (find place_cmp q es) as (λ o. find place_cmp q es ≡ o → o ≡ None) [
      | None ↦ λ _. refl
      | Some c ↦ λ is. let place : is_place q ≡ true = (entry_found es h q c is).0 in cc
    ] refl

is_so : (b : Bool) → b ≡ true → T b
is_so b h = subst T (sym h) tt

pub same_cells : (codes : Codes) (columns : List Column) → AreSheets codes columns → (cells : CellEntries) → IsBook (cells_only cells) → ((q : Place) → IsPlace q → content_at (cells_only cells) q ≡ content_of codes q (slot_at columns q)) → cells_of codes columns ≡ cells
unfolding content_at
same_cells codes columns sheets cells book each =
    same_entries place_cmp places_total exact_places (cells_of codes columns) cells (is_so _ (in_order codes columns)) (is_so _ book.cells_in_order)
    (λ q. elim (is_place q) as (λ b. is_place q ≡ b → find place_cmp q (cells_of codes columns) ≡ find place_cmp q cells) [
      | true ↦ λ at.
          let is : IsPlace q = tested_place q at in
          found codes columns q is ∙ sym (found_alike codes q (slot_at columns q) (find place_cmp q cells) (λ c found. (entry_found cells book.cells_held q c found).1) (each q is))
      | false ↦ λ not. no_place (cells_of codes columns) (entries_are codes columns sheets) q not ∙ sym (no_place cells book.cells_held q not)
    ] refl)
