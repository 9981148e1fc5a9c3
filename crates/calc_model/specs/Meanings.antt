-- What a part of a formula is to the part around it.
use Rattle.std.specs.Prelude.{List, map, Option, Some, None}
use Rattle.calc_addr.specs.Places.{Place, Rectangle, places}
use Rattle.calc_model.specs.declared.value.Value.{Value}
use Rattle.calc_model.specs.Scalars.{CellValues, scalar_at}

-- an area, and the values of its cells in area order
pub record ValuedArea : Type 0 where
  pub area : Rectangle
  pub values : List Value

unfoldable pub values_in : CellValues → Rectangle → List Value
values_in values area = map values (places area)

-- What a part of a formula is to the part around it: the value in a place that takes one value, and
-- the area with its values where the part is a reference, in any number of parentheses.
pub record Meaning : Type 0 where
  pub scalar : Value
  pub area : Option ValuedArea

abbrev pub scalar_alone : Value → Meaning
scalar_alone value = record { scalar = value; area = None }

abbrev pub meaning_of_area : Place → CellValues → Rectangle → Meaning
meaning_of_area home values area = record {
  scalar = scalar_at area home values;
  area = Some (record { area = area; values = values_in values area });
}
