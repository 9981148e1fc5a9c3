-- Cells of an area that are counted and listed, one column after the other.
use Rattle.std.proofs.Common.{◌≡◌, ℕ, ◌+◌, ◌-◌, ◌≤◌, ◌<◌, List, [], ◌∷◌, ◌++◌, length, length-append, drop, refl, ap, ◌∙◌, arith}
use Rattle.std.specs.Prelude.{sum_by}
use Rattle.std.proofs.lemmas.List.Sums.{get_or-le-sum_by, sum_by-take-drop, sum_by-take-le}
use Rattle.calc_model.specs.CellEdits.{CellEntries}
use Rattle.calc_model.proofs.EntriesMoved.{length-filter}
use Rattle.formula_code.specs.Codes.{Codes}
use Rattle.block_column.specs.Blocks.{blocks_of}
use Rattle.cell_columns.specs.Cells.{Column, cells_below, cells_of, column_at}
use Rattle.cell_columns.specs.Emptied.{lies_in}
use Rattle.cell_columns.specs.Uses.{cell_of, summed}
use Rattle.cell_columns.specs.Walks.{filled_among, places_below, places_of, rows_in, within_rows}
use Rattle.cell_columns.proofs.Counted.{counted, counted_below}
use Rattle.cell_columns.proofs.Filled.{filled_alike}
use Rattle.cell_columns.proofs.Walks.{cells_more, places_are}

module _ (from first last : ℕ) (begun : 1 ≤ first) (order : first ≤ last) (columns : List Column) (n : ℕ) (among : n < length columns) where
  pub count_more : (codes : Codes) → from ≤ n → length (within_rows from (n + 1) first last (cells_of codes columns)) ≡ length (within_rows from n first last (cells_of codes columns)) + filled_among first last (blocks_of (column_at columns n))
  count_more codes h =
      let more : CellEntries = cells_below codes n first (rows_in first last (column_at columns n)) in
      omega (
        arith,
        ap length (cells_more codes from first last begun n columns h among),
        length-append (within_rows from n first last (cells_of codes columns)) more,
        counted_below codes n first (rows_in first last (column_at columns n)),
        filled_alike first last (column_at columns n) begun order,
      )

  pub rows_few : filled_among first last (blocks_of (column_at columns n)) ≤ summed cell_of columns
  rows_few =
      omega (
        arith,
        filled_alike first last (column_at columns n) begun order,
        sum_by-take-le cell_of (drop (first - 1) (column_at columns n)) (last + 1 - first),
        sum_by-take-drop cell_of (column_at columns n) (first - 1),
        get_or-le-sum_by (λ c. sum_by cell_of c) columns n [] among,
      )

  pub places_more : (codes : Codes) → from ≤ n → places_of (within_rows from (n + 1) first last (cells_of codes columns)) ≡ places_of (within_rows from n first last (cells_of codes columns)) ++ places_below n first (rows_in first last (column_at columns n))
  places_more codes h =
      ap places_of (cells_more codes from first last begun n columns h among)
      ∙ parted (within_rows from n first last (cells_of codes columns)) (cells_below codes n first (rows_in first last (column_at columns n)))
      ∙ ap (λ ps. places_of (within_rows from n first last (cells_of codes columns)) ++ ps) (places_are codes from first last begun n first (rows_in first last (column_at columns n)))
    where
      parted : (es fs : CellEntries) → places_of (es ++ fs) ≡ places_of es ++ places_of fs
      parted [] fs = refl
      parted (e ∷ es) fs = ap (λ ps. e.0 ∷ ps) (parted es fs)

pub all_few : (codes : Codes) (columns : List Column) (from n first last : ℕ) → length (within_rows from n first last (cells_of codes columns)) ≤ summed cell_of columns
all_few codes columns from n first last = omega (arith, length-filter (λ e. lies_in from n first last e.0) (cells_of codes columns), counted codes columns)
