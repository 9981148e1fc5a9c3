-- All values of parameters.
use Rattle.std.specs.Prelude.{List, [], ◌∷◌}
use Rattle.std.specs.List.{flat_map}
use Rattle.calc_model.specs.declared.arg.Arg.{Arg}
use Rattle.calc_model.specs.declared.arg.Arg.TheVariants as arg
use Rattle.calc_model.specs.declared.value.Value.{Value}
use Rattle.calc_model.specs.Meanings.{values_in}
use Rattle.calc_model.specs.Scalars.{CellValues}

abbrev pub values_of_arg : CellValues → Arg → List Value
values_of_arg values (arg.Scalar value) = value ∷ []
values_of_arg values (arg.Area area) = values_in values area

-- the values of a list, blank ones too
unfoldable pub values_of_args : CellValues → List Arg → List Value
values_of_args values args = flat_map (values_of_arg values) args
