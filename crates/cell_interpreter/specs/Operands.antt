-- What the operands of the interpreter stand for.
use Rattle.std.specs.Prelude.{ℤ, ◌+ℤ◌, ◌-ℤ◌, ℕ, Bool, true, false, List, ◌++◌, Option, None, Some, Result, Ok, Err, ◌≡◌}
use Rattle.std.specs.Ordering.{is_eq, is_ge, is_gt, is_le, is_lt, is_ne}
use Rattle.std.specs.declared.cmp.Ordering.{Ordering}
use Rattle.calc_num.specs.Decimals.{checked, div, mul, pow}
use Rattle.calc_num.specs.declared.num.NumFault.{NumFault}
use Rattle.calc_model.specs.declared.tree.Op.{Op}
use Rattle.calc_model.specs.declared.tree.Op.TheVariants.{Pow, Mul, Div, Add, Sub, Eq, Ne, Lt, Le, Gt, Ge}
use Rattle.calc_model.specs.declared.value.Value.{Value}
use Rattle.calc_model.specs.declared.value.Value.TheVariants as value
use Rattle.calc_model.specs.declared.fault.Fault.{Fault}
use Rattle.calc_model.specs.Scalars.{words_of}
use Rattle.cell_interpreter.specs.declared.scalar.Scalar.{Scalar}
use Rattle.cell_interpreter.specs.declared.scalar.Scalar.TheVariants as scalar

-- the value that is lent or held
abbrev pub value_of : Scalar → Value
value_of (scalar.Number n) = value.Number n
value_of (scalar.Lent text) = value.Words text.now
value_of (scalar.Made text) = value.Words text
value_of (scalar.Bad fault) = value.Bad fault
value_of scalar.Blank = value.Blank

-- the operators that take two numbers
abbrev pub is_arithmetic : Op → Bool
is_arithmetic Pow = true
is_arithmetic Mul = true
is_arithmetic Div = true
is_arithmetic Add = true
is_arithmetic Sub = true
is_arithmetic _ = false

-- what such an operator gives
abbrev pub arithmetic : Op → ℤ → ℤ → Result ℤ NumFault
arithmetic Pow n m = pow n m
arithmetic Mul n m = mul n m
arithmetic Div n m = div n m
arithmetic Add n m = checked (n +ℤ m)
arithmetic _ n m = checked (n -ℤ m)

-- the operators that compare
abbrev pub is_comparison : Op → Bool
is_comparison Eq = true
is_comparison Ne = true
is_comparison Lt = true
is_comparison Le = true
is_comparison Gt = true
is_comparison Ge = true
is_comparison _ = false

-- whether such an operator holds of values in that order
abbrev pub holds : Op → Ordering → Bool
holds Eq order = is_eq order
holds Ne order = is_ne order
holds Lt order = is_lt order
holds Le order = is_le order
holds Gt order = is_gt order
holds _ order = is_ge order

-- the text got that of the value at its end, or the value is that error
abbrev pub Appends : List ℕ → List ℕ → Value → Option Fault → Type 0
Appends old new operand None = (words : List ℕ) × (words_of operand ≡ Ok words) × (new ≡ old ++ words)
Appends old new operand (Some fault) = words_of operand ≡ Err fault
