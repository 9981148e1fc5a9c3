-- Walking the values of an area piece by piece.
use Rattle.std.specs.Prelude.{◌≡◌, ◌≤◌, ℕ, List, [], ◌++◌, drop, length, Option, Some}
use Rattle.std.specs.Option.{MatchOption}
use Rattle.calc_addr.specs.Places.{IsInArea, Place, Rectangle, Rows, places_from}
use Rattle.calc_model.specs.declared.value.Value.{Value}
use Rattle.calc_model.specs.declared.values.Piece.{Piece}
use Rattle.calc_model.specs.UsedCells.{values_of}

-- A piece of one value at least comes from the front of what is left, and none where nothing is.
pub record IsCut (old : List Value) (piece : Piece) (new : List Value) : Type 0 where
  pub some : 1 ≤ length (values_of piece)
  pub front : old ≡ values_of piece ++ new

abbrev pub YieldsPiece : List Value → Option Piece → List Value → Type 0
YieldsPiece old piece new = MatchOption piece ((old ≡ []) × (new ≡ [])) (λ p. IsCut old p new)

-- what is left of the area behind so many cells of a column, from a cell on
pub record IsBehind (area : Rectangle) (cell : Place) (count : ℕ) (next : Option Place) : Type 0 where
  pub left : places_from area next ≡ drop count (places_from area (Some cell))
  pub inside : IsInArea area next

-- the rows of the area in a cell's column, from the cell down
abbrev pub rows_below : Rectangle → Place → Rows
rows_below area cell = record { sheet = cell.sheet; col = cell.col; first = cell.row; last = area.last_row }
