-- Columns of the generated book, put in cell by cell.
use Rattle.std.proofs.Common.{◌≡◌, ◌<◌, ◌+◌, ◌-◌, ℕ, suc, List, ◌∷◌, map, ap, arith}
use Rattle.std.specs.List.{range_with_len}
use Rattle.calc_model.specs.CellEdits.{CellEntries}
use Rattle.book_parts.specs.declared.generated.GeneratedColumn.{GeneratedColumn}
use Rattle.book_parts.specs.GeneratedColumns.{content_of, entries_of, place_of}

-- the entries of some rows
abbrev entries : GeneratedColumn → List ℕ → CellEntries
entries column = map (λ row. (place_of column row, content_of column row))

-- the entry of a row comes before those of the rows below
pub first_entry : (column : GeneratedColumn) (row rows : ℕ) → row < rows + 1 → entries_of column row rows ≡ (place_of column row, content_of column row) ∷ entries_of column (row + 1) rows
first_entry column row rows within =
    let more : rows + 1 - row ≡ suc (rows + 1 - (row + 1)) = omega arith in
    ap (λ n. entries column (range_with_len row n)) more
