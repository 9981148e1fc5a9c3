-- The parameters of functions that take one or two of them.
use Rattle.std.specs.Prelude.{ℤ, List, [], ◌∷◌, Result, Ok, Err}
use Rattle.calc_model.specs.declared.fault.Fault.{Fault}
use Rattle.calc_model.specs.declared.fault.Fault.TheVariants.{BadValue}
use Rattle.calc_model.specs.Meanings.{Meaning}
use Rattle.calc_model.specs.Parameters.{number}

-- the number of the only parameter
abbrev pub only_number : List Meaning → Result ℤ Fault
only_number (x ∷ []) = number x
only_number _ = Err BadValue

abbrev pub number_pair : Result ℤ Fault → Result ℤ Fault → Result (ℤ × ℤ) Fault
number_pair (Ok n) (Ok m) = Ok (n, m)
number_pair (Ok n) (Err fault) = Err fault
number_pair (Err fault) _ = Err fault

-- the numbers of the only two
abbrev pub only_numbers : List Meaning → Result (ℤ × ℤ) Fault
only_numbers (x ∷ y ∷ []) = number_pair (number x) (number y)
only_numbers _ = Err BadValue
