-- Areas with their values, and which way a table is looked up.
use Rattle.std.specs.Prelude.{ℤ, Bool}
use Rattle.calc_addr.specs.Places.{Rectangle}
use Rattle.calc_model.specs.declared.value.Value.{Value}
use Rattle.calc_model.specs.Lookup.{looked_up_along, looked_up_down}
use Rattle.calc_model.specs.Meanings.{ValuedArea, values_in}
use Rattle.calc_model.specs.Scalars.{CellValues}
use Rattle.fn_lookup.specs.declared.lookups.Way.{Way}
use Rattle.fn_lookup.specs.declared.lookups.Way.TheVariants.{Down, Along}

abbrev pub valued : CellValues → Rectangle → ValuedArea
valued values area = record { area = area; values = values_in values area }

abbrev pub looked_up : Way → Value → ValuedArea → ℤ → Bool → Value
looked_up Down = looked_up_down
looked_up Along = looked_up_along
