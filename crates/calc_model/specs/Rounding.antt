-- Functions of one or two numbers, after OpenFormula, 6.16 and 6.17: sizes and signs, rounding, division, powers.
use Rattle.std.specs.Prelude.{ℤ, pos, ◌^◌, ◌*ℤ◌, List, [], ◌∷◌, Result, Ok}
use Rattle.std.specs.Int.{int_signum}
use Rattle.std.specs.Int.RustNames.{unsigned_abs}
use Rattle.calc_num.specs.Decimals.{floor_mod, pow, quotient, round_to, sqrt}
use Rattle.calc_num.specs.declared.num.NumFault.{NumFault}
use Rattle.calc_num.specs.declared.rounding.Way.{Way}
use Rattle.calc_num.specs.declared.rounding.Way.TheVariants.{Nearest, Away, Toward, Floor}
use Rattle.calc_model.specs.declared.fault.Fault.TheVariants.{BadValue}
use Rattle.calc_model.specs.declared.value.Value.{Value}
use Rattle.calc_model.specs.declared.value.Value.TheVariants.{Bad}
use Rattle.calc_model.specs.Meanings.{Meaning}
use Rattle.calc_model.specs.Operators.{from_ok, value_of}
use Rattle.calc_model.specs.Parameters.{number, whole}

-- a function of one number
abbrev pub of_number : (ℤ → Result ℤ NumFault) → List Meaning → Value
of_number operation (x ∷ []) = from_ok (number x) (λ n. value_of (operation n))
of_number operation _ = Bad BadValue

-- a function of two numbers
abbrev pub of_two_numbers : (ℤ → ℤ → Result ℤ NumFault) → List Meaning → Value
of_two_numbers operation (x ∷ y ∷ []) = from_ok (number x) (λ n. from_ok (number y) (λ m. value_of (operation n m)))
of_two_numbers operation _ = Bad BadValue

abbrev pub abs : List Meaning → Value
abs = of_number (λ n. Ok (pos (unsigned_abs n)))

-- -1, 0 or 1
abbrev pub sign : List Meaning → Value
sign = of_number (λ n. Ok (int_signum n *ℤ pos (10 ^ 9)))

-- the greatest whole number not above it
abbrev pub int : List Meaning → Value
int = of_number (round_to Floor (pos 0))

-- the multiple of 10^(-digits) that a way of rounding picks; without digits, the whole number
abbrev pub rounded_by : Way → List Meaning → Value
rounded_by way (x ∷ []) = from_ok (number x) (λ n. value_of (round_to way (pos 0) n))
rounded_by way (x ∷ digits ∷ []) = from_ok (number x) (λ n. from_ok (whole digits) (λ d. value_of (round_to way d n)))
rounded_by way _ = Bad BadValue

abbrev pub round : List Meaning → Value
round = rounded_by Nearest

abbrev pub round_up : List Meaning → Value
round_up = rounded_by Away

-- TRUNC and ROUNDDOWN
abbrev pub round_down : List Meaning → Value
round_down = rounded_by Toward

abbrev pub mod_ : List Meaning → Value
mod_ = of_two_numbers floor_mod

abbrev pub quotient_ : List Meaning → Value
quotient_ = of_two_numbers quotient

abbrev pub power : List Meaning → Value
power = of_two_numbers pow

abbrev pub square_root : List Meaning → Value
square_root = of_number sqrt
