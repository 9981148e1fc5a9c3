-- The cells of columns stand in the order of cells.
use Rattle.std.proofs.Common.{◌≡◌, ℕ, ◌+◌, ◌≤◌, ◌<◌, true, false, cond, List, [], ◌∷◌, ◌++◌, refl, arith}
use Rattle.std.specs.Ordering.{is_lt}
use Rattle.std.specs.FinMap.Entries.{below_all, is_sorted}
use Rattle.std.proofs.lemmas.Bool.Decides.{nat_tests}
use Rattle.calc_addr.specs.Places.{Place, place_cmp}
use Rattle.calc_model.specs.CellEdits.{CellEntries}
use Rattle.calc_model.proofs.Areas.{both_true}
use Rattle.calc_model.proofs.EntriesKept.{both_so}
use Rattle.formula_code.specs.Codes.{Codes}
use Rattle.block_column.specs.Kinds.{is_filled}
use Rattle.kept_codes.specs.Columns.{cell_in}
use Rattle.cell_columns.specs.Cells.{Column, cells_below, cells_from, cells_of, content_of}

pub rows_rise : (number row lower : ℕ) → row < lower → is_lt (place_cmp (cell_in number row) (cell_in number lower)) ≡ true
rows_rise number row lower h = grind (arith, nat_tests)

pub columns_rise : (number next row other : ℕ) → number < next → is_lt (place_cmp (cell_in number row) (cell_in next other)) ≡ true
columns_rise number next row other h = grind (arith, nat_tests)

below-append : (p : Place) (es fs : CellEntries) → below_all place_cmp p es ≡ true → below_all place_cmp p fs ≡ true → below_all place_cmp p (es ++ fs) ≡ true
below-append p [] fs h k = k
below-append p (e ∷ es) fs h k =
    let parts = both_true (is_lt (place_cmp p e.0)) (below_all place_cmp p es) h in
    both_so _ _ parts.0 (below-append p es fs parts.1 k)

module _ (codes : Codes) where
  pub below_column : (p : Place) (number row : ℕ) → ((r : ℕ) → row ≤ r → is_lt (place_cmp p (cell_in number r)) ≡ true) → (xs : Column) → below_all place_cmp p (cells_below codes number row xs) ≡ true
  below_column p number row before [] = refl
  below_column p number row before (x ∷ xs) =
      let rest : CellEntries = cells_below codes number (row + 1) xs in
      let behind : below_all place_cmp p rest ≡ true = below_column p number (row + 1) (λ r h. before r (omega arith)) xs in
      elim (is_filled x) as (λ b. below_all place_cmp p (cond b ((cell_in number row, content_of codes (cell_in number row) x) ∷ rest) rest) ≡ true) [
        | true ↦ both_so _ _ (before row (omega arith)) behind
        | false ↦ behind
      ]

  pub below_columns : (p : Place) (number : ℕ) → ((n r : ℕ) → number ≤ n → is_lt (place_cmp p (cell_in n r)) ≡ true) → (cs : List Column) → below_all place_cmp p (cells_from codes number cs) ≡ true
  below_columns p number before [] = refl
  below_columns p number before (c ∷ cs) =
      below-append p (cells_below codes number 1 c) (cells_from codes (number + 1) cs)
      (below_column p number 1 (λ r h. before number r (omega arith)) c)
      (below_columns p (number + 1) (λ n r h. before n r (omega arith)) cs)

  sorted_column : (number row : ℕ) (xs : Column) (es : CellEntries) → is_sorted place_cmp es ≡ true → ((r : ℕ) → below_all place_cmp (cell_in number r) es ≡ true) → is_sorted place_cmp (cells_below codes number row xs ++ es) ≡ true
  sorted_column number row [] es h below = h
  sorted_column number row (x ∷ xs) es h below =
      let rest : CellEntries = cells_below codes number (row + 1) xs in
      let sorted : is_sorted place_cmp (rest ++ es) ≡ true = sorted_column number (row + 1) xs es h below in
      elim (is_filled x) as (λ b. is_sorted place_cmp (cond b ((cell_in number row, content_of codes (cell_in number row) x) ∷ rest) rest ++ es) ≡ true) [
        | true ↦ both_so _ _ (below-append (cell_in number row) rest es (below_column (cell_in number row) number (row + 1) (λ r h. rows_rise number row r (omega arith)) xs) (below row)) sorted
        | false ↦ sorted
      ]

  sorted_columns : (number : ℕ) (cs : List Column) → is_sorted place_cmp (cells_from codes number cs) ≡ true
  sorted_columns number [] = refl
  sorted_columns number (c ∷ cs) =
      sorted_column number 1 c (cells_from codes (number + 1) cs) (sorted_columns (number + 1) cs)
      (λ r. below_columns (cell_in number r) (number + 1) (λ n s h. columns_rise number n r s (omega arith)) cs)

  pub in_order : (columns : List Column) → is_sorted place_cmp (cells_of codes columns) ≡ true
  unfolding cells_of
  in_order columns = sorted_columns 0 columns
