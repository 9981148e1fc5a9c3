-- Lists of numbers that are taken one after the other, up to the first error.
use Rattle.std.specs.Prelude.{◌≡◌, ◌+◌, ◌^◌, ℕ, ℤ, List, fold, Result, Ok, Err}
use Rattle.std.specs.List.{flat_map}
use Rattle.calc_model.specs.declared.arg.Arg.{Arg}
use Rattle.calc_model.specs.declared.arg.Arg.TheVariants as arg
use Rattle.calc_model.specs.declared.fault.Fault.{Fault}
use Rattle.calc_model.specs.declared.value.Value.{Value}
use Rattle.calc_model.specs.Lists.{number_in_cell, number_of_scalar}
use Rattle.calc_model.specs.Meanings.{values_in}
use Rattle.calc_model.specs.Parameters.{all_ok}
use Rattle.calc_model.specs.Scalars.{CellValues}

unfoldable pub numbers_in_cells : List Value → List (Result ℤ Fault)
numbers_in_cells values = flat_map number_in_cell values

-- the numbers of a parameter
abbrev pub numbers_of_arg : CellValues → Arg → List (Result ℤ Fault)
numbers_of_arg values (arg.Scalar value) = number_of_scalar value
numbers_of_arg values (arg.Area area) = numbers_in_cells (values_in values area)

unfoldable pub numbers_of_args : CellValues → List Arg → List (Result ℤ Fault)
numbers_of_args values args = flat_map (numbers_of_arg values) args

-- an area's most cells: those of a whole sheet
abbrev pub MOST_IN_AREA : ℕ
MOST_IN_AREA = 2 ^ 30

-- The numbers were taken from a state on and led to another one, where there is room for all but so many as there
-- was before; or one of them is the first error.
abbrev pub IsTallied : {S U : Type 0} → (S → ℤ → S) → (S → ℕ → Type 0) → ℕ → S → List (Result ℤ Fault) → S → Result U Fault → Type 0
IsTallied step room size old numbers new (Ok done) =
    (ns : List ℤ) × (all_ok numbers ≡ Ok ns) × (new ≡ fold step old ns) × ((k : ℕ) → room old (size + k) → room new k)
IsTallied step room size old numbers new (Err fault) = all_ok numbers ≡ Err fault
