-- What cells show, by their columns.
use Rattle.std.proofs.Common.{◌≡◌, ℕ, ◌+◌, ◌-◌, ◌<◌, ◌≤◌, List, map, take, length, get_or, Option, refl, sym, ap, ◌∙◌, arith}
use Rattle.std.specs.List.{range_with_len}
use Rattle.std.proofs.lemmas.List.{same_lists, get_or_default, get_or-take, get_or-map, length-take-le, length-map}
use Rattle.std.proofs.lemmas.List.FromFn.{length-map-range_with_len, get_or-map-range_with_len}
use Rattle.calc_addr.specs.Places.{Place, Rows}
use Rattle.calc_model.specs.Scalars.{CellValues}
use Rattle.calc_model.specs.UsedCells.{IsFront, column_values, values_of}
use Rattle.calc_model.specs.declared.value.Value.{Value}
use Rattle.calc_model.specs.declared.value.Value.TheVariants.{Blank}
use Rattle.calc_model.specs.declared.values.Piece.{Piece}
use Rattle.value_column.specs.Sheets.{cell_values, column_in, row_value}
use Rattle.value_column.specs.ValueRows.{ValueRows}

pub cell-is : (sheets : List (Option ValueRows)) (cell : Place) (o : Option ValueRows) → o ≡ column_in sheets cell.sheet cell.col → cell_values sheets cell ≡ row_value o cell.row
unfolding cell_values
cell-is sheets cell o e = ap (λ v. row_value v cell.row) (sym e)

column-length : (values : CellValues) (rows : Rows) → length (column_values values rows) ≡ rows.last + 1 - rows.first
unfolding column_values
column-length values rows = length-map _ values ∙ length-map-range_with_len (λ row. record { sheet = rows.sheet; col = rows.col; row = row }) rows.first (rows.last + 1 - rows.first)

column-at : (values : CellValues) (rows : Rows) (k : ℕ) (d : Value) → k < rows.last + 1 - rows.first → get_or (column_values values rows) k d ≡ values (record { sheet = rows.sheet; col = rows.col; row = rows.first + k })
unfolding column_values
column-at values rows k d h =
    let places : List Place = map (λ row. record { sheet = rows.sheet; col = rows.col; row = row }) (range_with_len rows.first (rows.last + 1 - rows.first)) in
    let first : Place = record { sheet = rows.sheet; col = rows.col; row = rows.first } in
    let len : length places ≡ rows.last + 1 - rows.first = length-map-range_with_len (λ row. record { sheet = rows.sheet; col = rows.col; row = row }) rows.first (rows.last + 1 - rows.first) in
    get_or-map values places k first d (omega arith)
    ∙ ap values (get_or-map-range_with_len (λ row. record { sheet = rows.sheet; col = rows.col; row = row }) rows.first (rows.last + 1 - rows.first) k (rows.first + k) first h refl)

pub front-is : (values : CellValues) (rows : Rows) (piece : Piece) → 1 ≤ length (values_of piece) → rows.first + length (values_of piece) ≤ rows.last + 1 → ((k : ℕ) → k < length (values_of piece) → get_or (values_of piece) k Blank ≡ values (record { sheet = rows.sheet; col = rows.col; row = rows.first + k })) → IsFront values rows piece
front-is values rows piece some within same =
    let n : ℕ = length (values_of piece) in
    let len : length (column_values values rows) ≡ rows.last + 1 - rows.first = column-length values rows in
    let cut : length (take n (column_values values rows)) ≡ n = length-take-le n (column_values values rows) (omega arith) in
    record {
      some = some;
      within = omega arith;
      front = same_lists (values_of piece) (take n (column_values values rows)) (sym cut)
          (λ k d h. get_or_default (values_of piece) k d Blank h ∙ same k h ∙ sym (column-at values rows k d (omega arith)) ∙ sym (get_or-take n (column_values values rows) k d h));
    }
