-- What operators give, after OpenFormula, 6.4. The left operand is coerced first, and the first error is the result.
use Rattle.std.specs.Prelude.{ℕ, ℤ, pos, ◌+ℤ◌, ◌-ℤ◌, neg_ℤ, ◌^◌, Bool, List, ◌++◌, length, nat_lt, Result, Ok, Err, if◌then◌else◌}
use Rattle.std.specs.Ordering.{is_eq, is_ge, is_gt, is_le, is_lt, is_ne}
use Rattle.std.specs.declared.cmp.Ordering.{Ordering}
use Rattle.calc_num.specs.Decimals.{checked, div, mul, percent, pow}
use Rattle.calc_num.specs.declared.num.NumFault.{NumFault}
use Rattle.calc_num.specs.declared.num.NumFault.TheVariants as faults
use Rattle.calc_model.specs.declared.fault.Fault.{Fault}
use Rattle.calc_model.specs.declared.fault.Fault.TheVariants.{DivZero, BadNum, Over}
use Rattle.calc_model.specs.declared.limits.TheConstants.{MOST_FIELD_BYTES}
use Rattle.calc_model.specs.declared.tree.Op.{Op}
use Rattle.calc_model.specs.declared.tree.Op.TheVariants.{Pow, Mul, Div, Add, Sub, Cat, Eq, Ne, Lt, Le, Gt, Ge}
use Rattle.calc_model.specs.declared.value.Value.{Value}
use Rattle.calc_model.specs.declared.value.Value.TheVariants.{Number, Words, Bad}
use Rattle.calc_model.specs.Scalars.{compared, number_of, words_of}

-- what comes of a coerced operand, or its error
abbrev pub from_ok : {A : Type 0} → Result A Fault → (A → Value) → Value
from_ok (Ok x) next = next x
from_ok (Err fault) next = Bad fault

-- the error value of a decimal operation's fault
abbrev pub fault_of : NumFault → Fault
fault_of faults.Over = Over
fault_of faults.DivZero = DivZero
fault_of faults.NotNum = BadNum

-- the result of a decimal operation as a value
abbrev pub value_of : Result ℤ NumFault → Value
value_of (Ok n) = Number n
value_of (Err fault) = Bad (fault_of fault)

-- a decimal operation on two values
abbrev pub on_numbers : (ℤ → ℤ → Result ℤ NumFault) → Value → Value → Value
on_numbers operation left right =
    from_ok (number_of left) (λ n. from_ok (number_of right) (λ m. value_of (operation n m)))

-- a text that isn't too long
abbrev pub kept_words : List ℕ → Value
kept_words text = if nat_lt MOST_FIELD_BYTES (length text) then Bad Over else Words text

abbrev pub joined : Value → Value → Value
joined left right = from_ok (words_of left) (λ s. from_ok (words_of right) (λ t. kept_words (s ++ t)))

-- 1 or 0
abbrev pub truth : Bool → Value
truth b = Number (if b then pos (10 ^ 9) else pos 0)

abbrev pub comparison : (Ordering → Bool) → Value → Value → Value
comparison holds left right = from_ok (compared left right) (λ order. truth (holds order))

-- an infix operator
abbrev pub binary : Op → Value → Value → Value
binary Pow = on_numbers pow
binary Mul = on_numbers mul
binary Div = on_numbers div
binary Add = on_numbers (λ n m. checked (n +ℤ m))
binary Sub = on_numbers (λ n m. checked (n -ℤ m))
binary Cat = joined
binary Eq = comparison is_eq
binary Ne = comparison is_ne
binary Lt = comparison is_lt
binary Le = comparison is_le
binary Gt = comparison is_gt
binary Ge = comparison is_ge

-- the prefix `-`
abbrev pub negated : Value → Value
negated value = from_ok (number_of value) (λ n. Number (neg_ℤ n))

-- the postfix `%`
abbrev pub hundredth : Value → Value
hundredth value = from_ok (number_of value) (λ n. Number (percent n))
