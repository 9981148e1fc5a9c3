-- The first column and the first row of an area.
use Rattle.std.proofs.Common.{◌≡◌, ℕ, suc, ◌+◌, ◌-◌, ◌*◌, ◌<◌, ◌≤◌, List, ◌++◌, get_or, length, map, take, sym, ap, ◌∙◌, arith}
use Rattle.std.specs.List.{flat_map, range_with_len}
use Rattle.std.proofs.lemmas.List.{append-nil, ext_get_or, length-map, map-append, take_at}
use Rattle.std.proofs.lemmas.List.FromFn.{get_or-map-range_with_len, length-map-range_with_len, length-range_with_len}
use Rattle.calc_addr.specs.Places.{Place, Rectangle, column_places, from_to, places}
use Rattle.calc_addr.proofs.Walking.Places.{length-places}
use Rattle.calc_model.specs.Lookup.{col_count, first_column, first_row, row_count, value_in}
use Rattle.calc_model.specs.Meanings.{values_in}
use Rattle.calc_model.specs.Scalars.{CellValues}
use Rattle.calc_model.specs.declared.value.Value.TheVariants.{Blank}
use Rattle.fn_lookup.specs.Lines.{valued}
use Rattle.fn_lookup.proofs.Numbering.{value-there}

module _ (v : CellValues) (a : Rectangle) (cols : a.first_col ≤ a.last_col) (rows : a.first_row ≤ a.last_row) where
  column : ℕ → List Place
  column col = column_places a.sheet col a.first_row a.last_row

  abbrev first : Rectangle
  first = record a { last_col = a.first_col }

  only : places first ≡ column a.first_col
  unfolding column
  only =
      let one : a.first_col + 1 - a.first_col ≡ 1 = omega arith in
      ap (λ n. flat_map (λ col. column_places a.sheet col a.first_row a.last_row) (range_with_len a.first_col n)) one ∙ append-nil (column_places a.sheet a.first_col a.first_row a.last_row)

  length-first : length (map v (column a.first_col)) ≡ row_count a
  unfolding column
  length-first =
      length-map (column_places a.sheet a.first_col a.first_row a.last_row) v ∙ length-map (from_to a.first_row a.last_row) (λ row. record { sheet = a.sheet; col = a.first_col; row = row }) ∙ length-range_with_len a.first_row (a.last_row + 1 - a.first_row)

  pub column-is : values_in v first ≡ first_column (valued v a)
  unfolding values_in column
  column-is =
      let more : a.last_col + 1 - a.first_col ≡ suc (a.last_col - a.first_col) = omega arith in
      let rest : List Place = flat_map column (range_with_len (a.first_col + 1) (a.last_col - a.first_col)) in
      let split : places a ≡ column a.first_col ++ rest = ap (λ n. flat_map column (range_with_len a.first_col n)) more in
      ap (map v) only ∙ sym (ap (λ ps. take (row_count a) (map v ps)) split ∙ ap (take (row_count a)) (map-append v (column a.first_col) rest) ∙ take_at (map v (column a.first_col)) (map v rest) (row_count a) length-first)

  abbrev top : Rectangle
  top = record a { last_row = a.first_row }

  one_row : row_count top ≡ 1
  one_row = omega arith

  length-top : length (values_in v top) ≡ col_count a
  unfolding values_in
  length-top =
      length-map (places top) v ∙ length-places top ∙ ap (λ n. col_count a * n) one_row ∙ omega arith

  in_top : (i : ℕ) → i < col_count a → get_or (values_in v top) i Blank ≡ value_in (valued v a) 0 i
  in_top i inside =
      let index : i ≡ i * 1 + 0 = omega arith in
      ap (λ k. get_or (values_in v top) k Blank) (index ∙ ap (λ n. i * n + 0) (sym one_row))
      ∙ sym (value-there v top 0 i (omega (arith, one_row)) inside) ∙ value-there v a 0 i (omega (arith, rows)) inside

  pub row-is : values_in v top ≡ first_row (valued v a)
  row-is =
      ext_get_or Blank (values_in v top) (first_row (valued v a)) (length-top ∙ sym (length-map-range_with_len (value_in (valued v a) 0) 0 (col_count a)))
      (λ i inside.
      let within : i < col_count a = omega (arith, inside, length-top) in
      let index : 0 + i ≡ i = omega arith in
      in_top i within ∙ sym (get_or-map-range_with_len (value_in (valued v a) 0) 0 (col_count a) i i Blank within index))
