-- Parameters that are areas.
use Rattle.std.specs.Prelude.{◌≡◌, Result, Ok, Err}
use Rattle.calc_addr.specs.Places.{Rectangle}
use Rattle.calc_model.specs.declared.arg.Arg.{Arg}
use Rattle.calc_model.specs.declared.arg.Arg.TheVariants as arg
use Rattle.calc_model.specs.declared.fault.Fault.{Fault}
use Rattle.calc_model.specs.Parameters.{no_area}

-- the parameter's area, or the error in place of one
abbrev pub IsArea : Arg → Result Rectangle Fault → Type 0
IsArea parameter (Ok area) = parameter ≡ arg.Area area
IsArea (arg.Scalar value) (Err fault) = fault ≡ no_area value
IsArea (arg.Area area) (Err fault) = ⊥
