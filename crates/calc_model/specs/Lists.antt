-- The lists of parameters of a function: a reference gives its cells in area order, everything else itself.
use Rattle.std.specs.Prelude.{ℤ, List, [], ◌∷◌, Option, Some, None, Result, Ok, Err}
use Rattle.std.specs.List.{flat_map}
use Rattle.calc_model.specs.declared.fault.Fault.{Fault}
use Rattle.calc_model.specs.declared.fault.Fault.TheVariants.{BadValue}
use Rattle.calc_model.specs.declared.value.Value.{Value}
use Rattle.calc_model.specs.declared.value.Value.TheVariants.{Number, Words, Bad, Blank}
use Rattle.calc_model.specs.Meanings.{Meaning, ValuedArea}
use Rattle.calc_model.specs.Parameters.{all_ok}

-- the number of a cell in a list: a text and a blank cell are passed over
abbrev pub number_in_cell : Value → List (Result ℤ Fault)
number_in_cell (Number n) = Ok n ∷ []
number_in_cell (Words text) = []
number_in_cell (Bad fault) = Err fault ∷ []
number_in_cell Blank = []

-- the number of a scalar in a list: a text is no number
abbrev pub number_of_scalar : Value → List (Result ℤ Fault)
number_of_scalar (Number n) = Ok n ∷ []
number_of_scalar (Words text) = Err BadValue ∷ []
number_of_scalar (Bad fault) = Err fault ∷ []
number_of_scalar Blank = []

abbrev pub numbers_in : Value → Option ValuedArea → List (Result ℤ Fault)
numbers_in scalar (Some area) = flat_map number_in_cell area.values
numbers_in scalar None = number_of_scalar scalar

-- the numbers of a list, or its first error
unfoldable pub numbers : List Meaning → Result (List ℤ) Fault
numbers parameters = all_ok (flat_map (λ (p : Meaning). numbers_in p.scalar p.area) parameters)

abbrev pub values_or : Value → Option ValuedArea → List Value
values_or scalar (Some area) = area.values
values_or scalar None = scalar ∷ []

-- all values of a list, blank ones too
unfoldable pub values_of_list : List Meaning → List Value
values_of_list parameters = flat_map (λ (p : Meaning). values_or p.scalar p.area) parameters
