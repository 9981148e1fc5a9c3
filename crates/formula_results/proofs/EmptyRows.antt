-- Rows of a column that hold nothing.
use Rattle.std.proofs.Common.{◌≡◌, ℕ, zero, suc, ◌+◌, ◌-◌, ◌<◌, ◌≤◌, ◌∷◌, length, map, replicate, take, ap, arith, refl, sym, ◌∙◌}
use Rattle.std.specs.List.{range_with_len}
use Rattle.std.proofs.lemmas.List.{length-map, length-replicate}
use Rattle.std.proofs.lemmas.List.FromFn.{length-range_with_len}
use Rattle.calc_addr.specs.Places.{Place, Rows, column_places, from_to}
use Rattle.calc_model.specs.declared.value.Value.TheVariants.{Blank}
use Rattle.calc_model.specs.declared.values.Piece.TheVariants as piece
use Rattle.calc_model.specs.Scalars.{CellValues}
use Rattle.calc_model.specs.UsedCells.{IsFront, column_values}

abbrev pub at_row : ℕ → ℕ → ℕ → Place
at_row sheet col row = record { sheet = sheet; col = col; row = row }

module _ (v : CellValues) (sheet col : ℕ) where
  blank_rows : (n first m : ℕ) → n ≤ m → ((k : ℕ) → k < n → v (at_row sheet col (first + k)) ≡ Blank) → take n (map v (map (at_row sheet col) (range_with_len first m))) ≡ replicate n Blank
  blank_rows zero first m h blank = refl
  blank_rows (suc n) first zero h blank = absurd (omega (arith, h))
  blank_rows (suc n) first (suc m) h blank =
      let here : first ≡ first + 0 = omega arith in
      let rest = map v (map (at_row sheet col) (range_with_len (first + 1) m)) in
      ap (λ x. x ∷ take n rest) (ap (λ row. v (at_row sheet col row)) here ∙ blank 0 (omega arith))
      ∙ ap (λ xs. Blank ∷ xs) (blank_rows n (first + 1) m (omega (arith, h)) (λ k below.
      let e : first + 1 + k ≡ first + suc k = omega arith in
      ap (λ row. v (at_row sheet col row)) e ∙ blank (suc k) (omega (arith, below))))

-- so many blank cells are the first values of a column's rows
pub blank_front : (v : CellValues) (rows : Rows) (count : ℕ) → 1 ≤ count → count ≤ rows.last + 1 - rows.first → ((k : ℕ) → k < count → v (at_row rows.sheet rows.col (rows.first + k)) ≡ Blank) → IsFront v rows (piece.Blank count)
unfolding column_values
blank_front v rows count some most blank =
    let size : length (replicate count Blank) ≡ count = length-replicate count Blank in
    let all : length (map v (column_places rows.sheet rows.col rows.first rows.last)) ≡ rows.last + 1 - rows.first = length-map (column_places rows.sheet rows.col rows.first rows.last) v ∙ length-map (from_to rows.first rows.last) (at_row rows.sheet rows.col) ∙ length-range_with_len rows.first (rows.last + 1 - rows.first) in
    record {
      some = omega (arith, some, size);
      within = omega (arith, most, size, all);
      front = sym (ap (λ n. take n (map v (column_places rows.sheet rows.col rows.first rows.last))) size ∙ blank_rows v rows.sheet rows.col count rows.first (rows.last + 1 - rows.first) most blank);
    }
