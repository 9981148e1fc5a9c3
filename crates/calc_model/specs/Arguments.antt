-- What the parameters of a call mean: a value is itself alone, and an area its cells.
use Rattle.std.specs.Prelude.{List, map}
use Rattle.calc_addr.specs.Places.{Place}
use Rattle.calc_model.specs.declared.arg.Arg.{Arg}
use Rattle.calc_model.specs.declared.arg.Arg.TheVariants as arg
use Rattle.calc_model.specs.Meanings.{Meaning, meaning_of_area, scalar_alone}
use Rattle.calc_model.specs.Scalars.{CellValues}

abbrev pub meaning_of : Place → CellValues → Arg → Meaning
meaning_of home values (arg.Scalar value) = scalar_alone value
meaning_of home values (arg.Area area) = meaning_of_area home values area

abbrev pub meanings_of : Place → CellValues → List Arg → List Meaning
meanings_of home values args = map (meaning_of home values) args
