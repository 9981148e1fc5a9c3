-- What is kept of the numbers of a list so far.
use Rattle.std.specs.Prelude.{ℕ, ℤ, neg_ℤ, pos, zero, suc, ◌+◌, ◌-◌, ◌*◌, ◌^◌, ◌≤◌, ◌+ℤ◌, ◌≤ℤ◌, Option, Some, None}
use Rattle.std.specs.Prelude.{Bool, Result, if◌then◌else◌}
use Rattle.calc_num.specs.Decimals.{◌>>=◌, mul, nearest}
use Rattle.calc_num.specs.declared.num.NumFault.{NumFault}
use Rattle.calc_model.specs.Operators.{value_of}
use Rattle.calc_model.specs.declared.fault.Fault.TheVariants.{DivZero}
use Rattle.calc_model.specs.declared.value.Value.{Value}
use Rattle.calc_model.specs.declared.value.Value.TheVariants.{Bad, Number}

-- the sum of some numbers, and how many they are
pub record Totals : Type 0 where
  pub total : ℤ
  pub count : ℕ

-- each is in range
pub record IsBounded (total : ℤ) (count : ℕ) : Type 0 where
  pub low : neg_ℤ (pos (count * (10 ^ 27 - 1))) ≤ℤ total
  pub high : total ≤ℤ pos (count * (10 ^ 27 - 1))

abbrev pub with_term : Totals → ℤ → Totals
with_term sum n = record { total = sum.total +ℤ n; count = sum.count + 1 }

-- The sum of at most so many numbers in range fits 128 bits.
abbrev pub MOST_TERMS : ℕ
MOST_TERMS = 2 ^ 36

-- so many can be added
abbrev pub HasRoom : Totals → ℕ → Type 0
HasRoom sum more = sum.count + more ≤ MOST_TERMS

-- the mean, rounded to the nearest
abbrev pub mean : ℤ → ℕ → Value
mean total zero = Bad DivZero
mean total (suc count) = Number (nearest total (suc count))

-- an extreme so far, if there is one
abbrev pub with_extreme : (ℤ → ℤ → ℤ) → Option ℤ → ℤ → Option ℤ
with_extreme extreme None n = Some n
with_extreme extreme (Some m) n = Some (extreme m n)

abbrev pub extreme_or_zero : Option ℤ → Value
extreme_or_zero (Some n) = Number n
extreme_or_zero None = Number (pos 0)

-- a product so far with one more factor
abbrev pub with_factor : Result ℤ NumFault → ℤ → Result ℤ NumFault
with_factor product n = product >>= (λ p. mul p n)

abbrev pub product_or_zero : Bool → Result ℤ NumFault → Value
product_or_zero some product = if some then value_of product else Number (pos 0)
