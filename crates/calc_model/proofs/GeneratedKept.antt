-- The generated book is a book: its cells lie in the first sheet, its formulas are formed, and they are few enough.
use Rattle.std.proofs.Common.{◌≡◌, ◌≤◌, ◌+◌, ◌*◌, ◌-◌, ℕ, true, false, ◌&&◌, cond, List, [], ◌∷◌, ◌++◌, length, map, refl, ap, ◌∙◌, arith, lit≤}
use Rattle.std.specs.Prelude.{codes, pos, ◌==◌}
use Rattle.std.specs.List.{list_all}
use Rattle.std.specs.BTreeMap.{insert_entry}
use Rattle.std.specs.Str.{chars, is_utf8}
use lib.Utf8.{encode}
use Rattle.std.proofs.lemmas.Bool.{eq-eqb}
use Rattle.std.proofs.lemmas.Bool.Decides.{nat_tests}
use Rattle.std.proofs.lemmas.List.{length-append}
use Rattle.std.proofs.lemmas.List.FromFn.{length-map-range_with_len}
use Rattle.calc_addr.specs.declared.cell.TheConstants.{LAST_COL, LAST_ROW}
use Rattle.calc_addr.specs.Places.{Place, from_to, place_cmp}
use Rattle.calc_addr.specs.ValidReferences.{is_rectangle, is_spanned, is_valid_reference}
use Rattle.calc_addr.specs.declared.reference.Span.{Span}
use Rattle.calc_addr.specs.declared.reference.Span.TheVariants.{One, Cells}
use Rattle.calc_model.specs.declared.content.Content.{Content}
use Rattle.calc_model.specs.declared.content.Content.TheVariants.{Formula}
use Rattle.calc_model.specs.declared.limits.TheConstants.{MOST_CELLS, MOST_GENERATED_ROWS}
use Rattle.calc_model.specs.declared.tree.Op.TheVariants.{Add, Mul}
use Rattle.calc_model.specs.declared.tree.Tree.{Tree}
use Rattle.calc_model.specs.declared.tree.Tree.TheVariants as t
use Rattle.calc_model.specs.Books.{is_cell_entry, is_content}
use Rattle.calc_model.specs.CellEdits.{CellEntries, with_entries}
use Rattle.calc_model.specs.Formed.{form_of, form_step, is_formed, is_well_formed}
use Rattle.calc_model.specs.GeneratedBook.{cell_reference, column_entries, column_reference, double_entries, doubled, generated_entries, generated_number, number_entries, running_entries, running_sum, unmarked, whole, window_entries, window_sum}
use Rattle.calc_model.specs.Limits.{counts_step, is_in_limits}
use Rattle.calc_model.proofs.Areas.{all_range, both_true}
use Rattle.calc_model.proofs.EntriesKept.{both_so, length-inserted}
use Rattle.calc_model.proofs.RowsKept.{tested_rectangle}
use Rattle.calc_model.proofs.TreeFolds.{at-Number, at-Ref, at-Call, at-Binary}

-- rows of a column of the first sheet
column_lies : (col first last : ℕ) → 1 ≤ col → col ≤ LAST_COL → 1 ≤ first → first ≤ last → last ≤ LAST_ROW → is_rectangle (record { sheet = 0; first_col = col; last_col = col; first_row = first; last_row = last }) ≡ true
column_lies col first last from to top ordered bottom = tested_rectangle (record { sheet = 0; first_col = col; last_col = col; first_row = first; last_row = last }) (record {
  sheet_in = omega arith;
  cols_from = from;
  cols_in_order = omega arith;
  cols_to = to;
  rows_from = top;
  rows_in_order = ordered;
  rows_to = bottom;
})

valid_column : (span : Span) (col first last : ℕ) → 1 ≤ col → col ≤ LAST_COL → 1 ≤ first → first ≤ last → last ≤ LAST_ROW → is_spanned span (column_reference span col first last).area unmarked ≡ true → is_valid_reference (column_reference span col first last) ≡ true
unfolding is_valid_reference
valid_column span col first last from to top ordered bottom spanned =
    both_so _ _ (both_so _ _ (column_lies col first last from to top ordered bottom) spanned) refl

valid_cell : (col row : ℕ) → 1 ≤ col → col ≤ LAST_COL → 1 ≤ row → row ≤ LAST_ROW → is_valid_reference (column_reference One col row row) ≡ true
valid_cell col row from to top bottom =
    valid_column One col row row from to top (omega arith) bottom
    (ap (λ b. b && (row == row) && true && true) (eq-eqb col col refl) ∙ ap (λ b. b && true && true) (eq-eqb row row refl))

formed : (x : Tree) → (form_of x).formed ≡ true → is_in_limits x ≡ true → is_formed x ≡ true
unfolding is_well_formed
formed x well limits = both_so _ _ well limits

pub cell_formed : (col row : ℕ) → 1 ≤ col → col ≤ LAST_COL → 1 ≤ row → row ≤ LAST_ROW → is_formed (cell_reference col row) ≡ true
unfolding is_in_limits
cell_formed col row from to top bottom =
    let r = column_reference One col row row in
    formed (t.Ref r) (rw (at-Ref _ form_step r) (valid_cell col row from to top bottom)) (rw (at-Ref _ counts_step r) refl)

pub doubled_formed : (row : ℕ) → 1 ≤ row → row ≤ LAST_ROW → is_formed (doubled row) ≡ true
unfolding is_in_limits
doubled_formed row top bottom =
    let r = column_reference One 1 row row in
    formed (doubled row)
    (rw (at-Binary _ form_step Mul (t.Ref r) (t.Number (pos (whole 2))), at-Ref _ form_step r, at-Number _ form_step (pos (whole 2)), valid_cell 1 row (lit≤ tt) (lit≤ tt) top bottom) refl)
    (rw (at-Binary _ counts_step Mul (t.Ref r) (t.Number (pos (whole 2))), at-Ref _ counts_step r, at-Number _ counts_step (pos (whole 2))) refl)

pub sum_formed : (row : ℕ) → 1 ≤ row - 1 → row ≤ LAST_ROW → is_formed (t.Binary Add (cell_reference 3 (row - 1)) (cell_reference 2 row)) ≡ true
unfolding is_in_limits
sum_formed row top bottom =
    let above = column_reference One 3 (row - 1) (row - 1) in
    let beside = column_reference One 2 row row in
    formed (t.Binary Add (t.Ref above) (t.Ref beside))
    (rw (at-Binary _ form_step Add (t.Ref above) (t.Ref beside), at-Ref _ form_step above, at-Ref _ form_step beside, valid_cell 3 (row - 1) (lit≤ tt) (lit≤ tt) top (omega arith), valid_cell 2 row (lit≤ tt) (lit≤ tt) (omega arith) bottom) refl)
    (rw (at-Binary _ counts_step Add (t.Ref above) (t.Ref beside), at-Ref _ counts_step above, at-Ref _ counts_step beside) refl)

pub running_sum_formed : (row : ℕ) → 1 ≤ row → row ≤ LAST_ROW → is_formed (running_sum row) ≡ true
running_sum_formed row top bottom =
    elim (row == 1) as (λ b. (row == 1) ≡ b → is_formed (cond b (cell_reference 2 1) (t.Binary Add (cell_reference 3 (row - 1)) (cell_reference 2 row))) ≡ true) [
      | true ↦ λ _. cell_formed 2 1 (lit≤ tt) (lit≤ tt) (lit≤ tt) (lit≤ tt)
      | false ↦ λ more. sum_formed row (grind (arith, nat_tests, top, more)) bottom
    ] refl

sum_is_text : is_utf8 (codes "SUM") ≡ true
unfolding is_utf8 chars encode
sum_is_text = refl

pub window_sum_formed : (row : ℕ) → 8 ≤ row → row ≤ LAST_ROW → is_formed (window_sum row) ≡ true
unfolding is_in_limits
window_sum_formed row top bottom =
    let r = column_reference Cells 1 (row - 7) row in
    formed (window_sum row)
    (rw (at-Call _ form_step (codes "SUM") (t.Ref r ∷ []), at-Ref _ form_step r, valid_column Cells 1 (row - 7) row (lit≤ tt) (lit≤ tt) (omega arith) (omega arith) bottom refl, sum_is_text) refl)
    (rw (at-Call _ counts_step (codes "SUM") (t.Ref r ∷ []), at-Ref _ counts_step r) refl)

-- the entries of a column are ones that a cell can have
column_held : (col : ℕ) (content : ℕ → Content) (first last : ℕ) → 1 ≤ col → col ≤ LAST_COL → 1 ≤ first → last ≤ LAST_ROW → ((row : ℕ) → first ≤ row → row ≤ last → is_content (content row) ≡ true) → list_all is_cell_entry (column_entries col content first last) ≡ true
column_held col content first last from to top bottom can =
    over_map (from_to first last)
    (all_range (λ row. is_cell_entry (record { sheet = 0; col = col; row = row }, content row)) first (last + 1 - first)
    (λ row below above. both_so _ _ (column_lies col row row from to (omega arith) (omega arith) (omega arith)) (can row below (omega arith))))
  where
    over_map : (rows : List ℕ) → list_all (λ row. is_cell_entry (record { sheet = 0; col = col; row = row }, content row)) rows ≡ true → list_all is_cell_entry (map (λ row. (record { sheet = 0; col = col; row = row }, content row)) rows) ≡ true
    over_map [] h = refl
    over_map (row ∷ rows) h =
        let parts = both_true (is_cell_entry (record { sheet = 0; col = col; row = row }, content row)) (list_all (λ row. is_cell_entry (record { sheet = 0; col = col; row = row }, content row)) rows) h in
        both_so _ _ parts.0 (over_map rows parts.1)

both_held : (xs ys : CellEntries) → list_all is_cell_entry xs ≡ true → list_all is_cell_entry ys ≡ true → list_all is_cell_entry (xs ++ ys) ≡ true
both_held [] ys first second = second
both_held (x ∷ xs) ys first second =
    let parts = both_true (is_cell_entry x) (list_all is_cell_entry xs) first in
    both_so _ _ parts.0 (both_held xs ys parts.1 second)

pub generated_held : (start rows : ℕ) → rows ≤ LAST_ROW → list_all is_cell_entry (generated_entries start rows) ≡ true
unfolding generated_entries
generated_held start rows few =
    let a = number_entries start rows in
    let b = double_entries rows in
    let c = running_entries rows in
    both_held (a ++ b ++ c) (window_entries rows)
    (both_held (a ++ b) c
    (both_held a b
    (column_held 1 (generated_number start) 1 rows (lit≤ tt) (lit≤ tt) (lit≤ tt) few (λ row _ _. refl))
    (column_held 2 (λ row. Formula (doubled row)) 1 rows (lit≤ tt) (lit≤ tt) (lit≤ tt) few (λ row top to. doubled_formed row top (omega arith))))
    (column_held 3 (λ row. Formula (running_sum row)) 1 rows (lit≤ tt) (lit≤ tt) (lit≤ tt) few (λ row top to. running_sum_formed row top (omega arith))))
    (column_held 4 (λ row. Formula (window_sum row)) 8 rows (lit≤ tt) (lit≤ tt) (lit≤ tt) few (λ row top to. window_sum_formed row top (omega arith)))

-- entries that are put in are no more than those and the ones before
no_longer : (news es : CellEntries) → length (with_entries es news) ≤ length es + length news
no_longer [] es = omega arith
no_longer (e ∷ news) es = omega (arith, length-inserted place_cmp e.0 e.1 es, no_longer news (insert_entry place_cmp es e.0 e.1))

column_length : (col : ℕ) (content : ℕ → Content) (first last : ℕ) → length (column_entries col content first last) ≤ last + 1 - first
column_length col content first last = omega (arith, length-map-range_with_len {X = Place × Content} (λ (row : ℕ). (record { sheet = 0; col = col; row = row }, content row)) first (last + 1 - first))

pub generated_length : (start rows : ℕ) → length (with_entries [] (generated_entries start rows)) ≤ 4 * rows
unfolding generated_entries
generated_length start rows =
    let a = number_entries start rows in
    let b = double_entries rows in
    let c = running_entries rows in
    let d = window_entries rows in
    omega (
      arith,
      no_longer (a ++ b ++ c ++ d) [],
      length-append (a ++ b ++ c) d,
      length-append (a ++ b) c,
      length-append a b,
      column_length 1 (generated_number start) 1 rows,
      column_length 2 (λ row. Formula (doubled row)) 1 rows,
      column_length 3 (λ row. Formula (running_sum row)) 1 rows,
      column_length 4 (λ row. Formula (window_sum row)) 8 rows,
    )

-- so many rows are few enough
pub generated_in_sheet : (rows : ℕ) → rows ≤ MOST_GENERATED_ROWS → rows ≤ LAST_ROW
generated_in_sheet rows few = omega arith

pub generated_fit : (start rows : ℕ) → rows ≤ MOST_GENERATED_ROWS → length (with_entries [] (generated_entries start rows)) ≤ MOST_CELLS
generated_fit start rows few = omega (arith, generated_length start rows)
