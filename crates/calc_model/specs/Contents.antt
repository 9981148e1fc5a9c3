-- What a cell can hold.
use Rattle.std.specs.Prelude.{◌≡◌, Bool, true, false}
use Rattle.calc_model.specs.declared.fault.Fault.{Fault}
use Rattle.calc_model.specs.declared.fault.Fault.TheVariants.{Syntax, Circular}
use Rattle.calc_model.specs.declared.value.Value.{Value}
use Rattle.calc_model.specs.declared.value.Value.TheVariants.{Number, Words, Bad, Blank}

-- The first eight faults have a constant that is written so.
abbrev pub is_error_constant : Fault → Bool
is_error_constant Syntax = false
is_error_constant Circular = false
is_error_constant _ = true

-- a value that a field can hold
abbrev pub is_constant : Value → Bool
is_constant (Number n) = true
is_constant (Words text) = true
is_constant (Bad fault) = is_error_constant fault
is_constant Blank = false

abbrev pub IsConstant : Value → Type 0
IsConstant value = is_constant value ≡ true
