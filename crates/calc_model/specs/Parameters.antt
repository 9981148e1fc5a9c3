-- What a function takes of its parameters, after OpenFormula, 6.3. Each kind is a value, or an error that is the
-- function's result in its place. Parameters are taken from left to right, so the first error is the result.
use Rattle.std.specs.Prelude.{ℕ, ℤ, pos, int_div, ◌^◌, Bool, List, [], ◌∷◌, Option, Some, None, Result, Ok, Err}
use Rattle.calc_model.specs.declared.fault.Fault.{Fault}
use Rattle.calc_model.specs.declared.fault.Fault.TheVariants.{BadValue}
use Rattle.calc_model.specs.declared.value.Value.{Value}
use Rattle.calc_model.specs.declared.value.Value.TheVariants.{Number, Bad, Blank}
use Rattle.calc_model.specs.Meanings.{Meaning, ValuedArea}
use Rattle.calc_model.specs.Scalars.{number_of, truth_of, words_of}

abbrev pub number : Meaning → Result ℤ Fault
number parameter = number_of parameter.scalar

abbrev pub text : Meaning → Result (List ℕ) Fault
text parameter = words_of parameter.scalar

abbrev pub truth_value : Meaning → Result Bool Fault
truth_value parameter = truth_of parameter.scalar

-- a number cut toward zero
abbrev pub cut : Result ℤ Fault → Result ℤ Fault
cut (Ok n) = Ok (int_div n (pos (10 ^ 9)))
cut (Err fault) = Err fault

abbrev pub whole : Meaning → Result ℤ Fault
whole parameter = cut (number parameter)

-- a value that is no reference is an error in the place of one
abbrev pub no_area : Value → Fault
no_area (Bad fault) = fault
no_area _ = BadValue

abbrev pub area_or : Value → Option ValuedArea → Result ValuedArea Fault
area_or scalar (Some area) = Ok area
area_or scalar None = Err (no_area scalar)

abbrev pub area : Meaning → Result ValuedArea Fault
area parameter = area_or parameter.scalar parameter.area

-- what is searched for, or compared with: blank is 0
abbrev pub key_of : Value → Result Value Fault
key_of (Bad fault) = Err fault
key_of Blank = Ok (Number (pos 0))
key_of value = Ok value

abbrev pub key : Meaning → Result Value Fault
key parameter = key_of parameter.scalar

-- all of them, or the first error
abbrev pub and_then : {A : Type 0} → A → Result (List A) Fault → Result (List A) Fault
and_then x (Ok xs) = Ok (x ∷ xs)
and_then x (Err fault) = Err fault

abbrev pub all_ok : {A : Type 0} → List (Result A Fault) → Result (List A) Fault
all_ok [] = Ok []
all_ok (Ok x ∷ rest) = and_then x (all_ok rest)
all_ok (Err fault ∷ rest) = Err fault
