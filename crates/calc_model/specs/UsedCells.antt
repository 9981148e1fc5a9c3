-- Cells of an area by what they show: the used ones in area order, circles among them, and the values of a part of
-- one column.
use Rattle.std.specs.Prelude.{◌≡◌, ◌≤◌, ◌&&◌, Bool, true, false, List, [], ◌∷◌, length, map, replicate, take, Option, Some, None}
use Rattle.std.specs.List.{filter, list_any}
use Rattle.std.specs.Ordering.{is_lt}
use Rattle.calc_addr.specs.Places.{Place, Rectangle, Rows, column_places, place_cmp, places}
use Rattle.calc_model.specs.declared.fault.Fault.TheVariants.{Circular}
use Rattle.calc_model.specs.declared.value.Value.{Value}
use Rattle.calc_model.specs.declared.value.Value.TheVariants.{Number, Bad, Blank}
use Rattle.calc_model.specs.declared.values.Piece.{Piece}
use Rattle.calc_model.specs.declared.values.Piece.TheVariants as piece
use Rattle.calc_model.specs.Scalars.{CellValues}
use Rattle.calc_model.specs.ValueTexts.{lent}

-- something is shown there
abbrev pub is_used : Value → Bool
is_used Blank = false
is_used _ = true

abbrev pub is_circle : Value → Bool
is_circle (Bad Circular) = true
is_circle _ = false

-- the cell comes behind that one, if there is one
abbrev pub is_past : Option Place → Place → Bool
is_past None q = true
is_past (Some p) q = is_lt (place_cmp p q)

-- the cells of an area that show something and come behind that one, in area order
unfoldable pub used_past : CellValues → Rectangle → Option Place → List Place
used_past values area after = filter (λ q. is_used (values q) && is_past after q) (places area)

-- whether a cell of the area shows a circle
unfoldable pub has_circle : CellValues → Rectangle → Bool
has_circle values area = list_any (λ q. is_circle (values q)) (places area)

-- the values of some neighbouring rows, downwards
unfoldable pub column_values : CellValues → Rows → List Value
column_values values rows = map values (column_places rows.sheet rows.col rows.first rows.last)

-- the values that a piece says
abbrev pub values_of : Piece → List Value
values_of (piece.Small items) = map Number items.now
values_of (piece.Blank count) = replicate count Blank
values_of (piece.One seen) = lent seen ∷ []

-- The piece says the values of the first of these rows, of one at least.
pub record IsFront (values : CellValues) (rows : Rows) (piece : Piece) : Type 0 where
  pub some : 1 ≤ length (values_of piece)
  pub within : length (values_of piece) ≤ length (column_values values rows)
  pub front : values_of piece ≡ take (length (values_of piece)) (column_values values rows)
