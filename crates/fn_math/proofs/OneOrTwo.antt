-- Functions of one or two numbers, by the numbers of their parameters.
use Rattle.std.proofs.Common.{◌≡◌, ℤ, List, [], ◌∷◌, Ok, Err, refl}
use Rattle.std.specs.Prelude.{Result}
use Rattle.calc_num.specs.declared.num.NumFault.{NumFault}
use Rattle.calc_model.specs.declared.fault.Fault.{Fault}
use Rattle.calc_model.specs.Meanings.{Meaning}
use Rattle.calc_model.specs.Operators.{from_ok, value_of}
use Rattle.calc_model.specs.Parameters.{number}
use Rattle.calc_model.specs.Rounding.{of_number, of_two_numbers}
use Rattle.fn_math.specs.Operands.{number_pair, only_number, only_numbers}

pub of_one : (operation : ℤ → Result ℤ NumFault) (parameters : List Meaning) → of_number operation parameters ≡ from_ok (only_number parameters) (λ n. value_of (operation n))
of_one operation [] = refl
of_one operation (x ∷ []) = refl
of_one operation (x ∷ y ∷ rest) = refl

from_pair : (operation : ℤ → ℤ → Result ℤ NumFault) (n m : Result ℤ Fault) → from_ok n (λ n. from_ok m (λ m. value_of (operation n m))) ≡ from_ok (number_pair n m) (λ p. value_of (operation p.0 p.1))
from_pair operation (Ok n) (Ok m) = refl
from_pair operation (Ok n) (Err fault) = refl
from_pair operation (Err fault) m = refl

pub of_two : (operation : ℤ → ℤ → Result ℤ NumFault) (parameters : List Meaning) → of_two_numbers operation parameters ≡ from_ok (only_numbers parameters) (λ p. value_of (operation p.0 p.1))
of_two operation [] = refl
of_two operation (x ∷ []) = refl
of_two operation (x ∷ y ∷ []) = from_pair operation (number x) (number y)
of_two operation (x ∷ y ∷ z ∷ rest) = refl
