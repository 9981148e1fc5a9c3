-- A piece from the front of what is left of an area.
use Rattle.std.proofs.Common.{◌≡◌, true, subst, ℕ, ◌<◌, ◌≤◌, ◌+◌, ◌-◌, List, ◌++◌, drop, take, length, map, ap, sym, ◌∙◌, arith, Some, Option}
use Rattle.std.proofs.lemmas.List.{drop-map, length-append, length-map, map-append, take-append-drop, take-append-le}
use Rattle.calc_addr.specs.Places.{Place, Rectangle, column_places, corner, covers, places_from}
use Rattle.calc_addr.proofs.Walking.Places.{IsCovered-from}
use Rattle.calc_model.specs.declared.value.Value.{Value}
use Rattle.calc_addr.proofs.Walking.Walks.{places_from-corner}
use Rattle.calc_model.specs.Meanings.{values_in}
use Rattle.calc_model.specs.Scalars.{CellValues}
use Rattle.calc_model.specs.UsedCells.{IsFront, column_values, values_of}
use Rattle.calc_model.specs.declared.values.Piece.{Piece}
use Rattle.fn_args.specs.Pieces.{IsBehind, IsCut, rows_below}
use Rattle.fn_args.proofs.Columns.{column, later, length-column}

module _ (v : CellValues) (a : Rectangle) (p : Place) where
  -- the piece's rows are those of the area
  pub fits : (piece : Piece) → IsFront v (rows_below a p) piece → length (values_of piece) ≤ a.last_row + 1 - p.row
  unfolding column_values
  fits piece front = omega (arith, front.within, length-map (column_places p.sheet p.col p.row a.last_row) v, length-column p.sheet p.col p.row a.last_row)

  pub cuts : (piece : Piece) → IsFront v (rows_below a p) piece → p.sheet ≡ a.sheet → IsCut (map v (places_from a (Some p))) piece (map v (drop (length (values_of piece)) (places_from a (Some p))))
  unfolding column_values
  cuts piece front same = record {
    some = front.some;
    front =
        let n = length (values_of piece) in
        let all = places_from a (Some p) in
        sym (take-append-drop n (map v all))
        ∙ ap (λ xs. xs ++ drop n (map v all)) (ap (take n) (map-append v (column a p) (later a p)) ∙ take-append-le n (map v (column a p)) (map v (later a p)) (subst (λ sheet. n ≤ length (map v (column_places sheet p.col p.row a.last_row))) same front.within) ∙ ap (λ sheet. take n (map v (column_places sheet p.col p.row a.last_row))) (sym same) ∙ sym front.front)
        ∙ ap (λ xs. values_of piece ++ xs) (drop-map v n all);
  }

  -- what is left behind the piece
  pub cut_step : (piece : Piece) (n : ℕ) (next : Option Place) (old new : List Value) → IsFront v (rows_below a p) piece → covers a p ≡ true → n ≡ length (values_of piece) → IsBehind a p n next → map v (places_from a (Some p)) ≡ old → map v (places_from a next) ≡ new → IsCut old piece new
  cut_step piece n next old new front covered size behind from to =
      subst (λ xs. IsCut xs piece new) from
      (subst (IsCut (map v (places_from a (Some p))) piece) (ap (λ k. map v (drop k (places_from a (Some p)))) (sym size) ∙ ap (map v) (sym behind.left) ∙ to)
      (cuts piece front (IsCovered-from a p covered).sheet))

-- a piece makes what is left shorter
pub shorter : (old new : List Value) (piece : Piece) → IsCut old piece new → length new < length old
shorter old new piece cut = omega (arith, cut.some, ap length cut.front, length-append (values_of piece) new)

-- the values from the corner on are all of the area's
pub all_values : (v : CellValues) (a : Rectangle) (p : Place) → p ≡ corner a → covers a p ≡ true → map v (places_from a (Some p)) ≡ values_in v a
unfolding values_in
all_values v a p e covered =
    ap (λ q. map v (places_from a (Some q))) e ∙ ap (map v) (places_from-corner a (subst (λ q. covers a q ≡ true) e covered))
