-- Decimals of nine places as whole numbers without bound: a raw number n stands for n / 10^9. Each result is one exact
-- sum, product or quotient, rounded at most once, or the fault that the operation has there.
use Rattle.std.specs.Prelude.{◌≡◌, ℕ, ℤ, pos, negsuc, neg_ℤ, ◌-ℤ◌, ◌*ℤ◌, zero, suc, ◌+◌, ◌-◌, ◌*◌, ◌/◌, ◌%◌, ◌^◌, ◌<◌, ◌≤◌, ◌==◌, ◌&&◌, Bool, true, Result, Ok, Err, nat_lt, nat_le, int_lt, int_le, int_div, if◌then◌else◌}
use Rattle.std.specs.Int.RustNames.{unsigned_abs}
use Rattle.calc_num.specs.declared.num.NumFault.{NumFault}
use Rattle.calc_num.specs.declared.power.TheConstants.{MOST_FACTORS}
use Rattle.calc_num.specs.declared.num.NumFault.TheVariants.{Over, DivZero, NotNum}
use Rattle.calc_num.specs.declared.rounding.Way.{Way}
use Rattle.calc_num.specs.declared.rounding.Way.TheVariants.{Nearest, Away, Toward, Floor}

-- a raw number in range has a size below 10^27
abbrev pub is_raw : ℤ → Bool
is_raw n = nat_lt (unsigned_abs n) (10 ^ 27)

abbrev pub IsRaw : ℤ → Type 0
IsRaw n = is_raw n ≡ true

-- an exact result, or the fault where it is out of range
abbrev pub checked : ℤ → Result ℤ NumFault
checked n = if is_raw n then Ok n else Err Over

-- a size, or its negative
abbrev pub with_sign : Bool → ℕ → ℤ
with_sign negative size = if negative then neg_ℤ (pos size) else pos size

-- the nearest whole number to p / q for a q above 0, halves upward
abbrev pub rounded : ℕ → ℕ → ℕ
rounded p q = (2 * p + q) / (2 * q)

-- the same for a p of either sign, halves away from zero
abbrev pub nearest : ℤ → ℕ → ℤ
nearest (pos p) q = pos (rounded p q)
nearest (negsuc p) q = neg_ℤ (pos (rounded (suc p) q))

-- n times m
abbrev pub mul : ℤ → ℤ → Result ℤ NumFault
mul n m = checked (nearest (n *ℤ m) (10 ^ 9))

-- n divided by m, whose sign goes to the numerator
abbrev pub div : ℤ → ℤ → Result ℤ NumFault
div n (pos zero) = Err DivZero
div n (pos (suc m)) = checked (nearest (n *ℤ pos (10 ^ 9)) (suc m))
div n (negsuc m) = checked (nearest (neg_ℤ (n *ℤ pos (10 ^ 9))) (suc m))

-- n hundredths
abbrev pub percent : ℤ → ℤ
percent n = nearest n 100

-- what comes after a result that may be a fault
infixl 10 ◌>>=◌
abbrev pub ◌>>=◌ : {A B : Type 0} → Result A NumFault → (A → Result B NumFault) → Result B NumFault
Ok value >>= next = next value
Err fault >>= next = Err fault

-- 1 multiplied by n so many times, rounded and tested at each step
unfoldable pub repeated_product : ℤ → ℕ → Result ℤ NumFault
repeated_product n zero = Ok (pos (10 ^ 9))
repeated_product n (suc count) = repeated_product n count >>= (λ before. mul before n)

-- how often an exponent multiplies: it is a whole number from -1,024 to 1,024
abbrev pub exponent_size : ℤ → Result ℕ NumFault
exponent_size exponent =
    let size = unsigned_abs exponent in
    if size % 10 ^ 9 == 0 && nat_le (size / 10 ^ 9) MOST_FACTORS then Ok (size / 10 ^ 9) else Err NotNum

-- n to the power of an exponent, which for a negative one is 1 divided by the product
abbrev pub pow : ℤ → ℤ → Result ℤ NumFault
pow n exponent = do
  count ← exponent_size exponent
  up ← repeated_product n count
  if int_lt exponent (pos 0) then div (pos (10 ^ 9)) up else Ok up

-- the whole number that a way of rounding picks for n / unit
abbrev pub pick : Way → ℤ → ℕ → ℤ
pick Nearest n unit = nearest n unit
pick Away (pos n) unit = pos ((n + (unit - 1)) / unit)
pick Away (negsuc n) unit = neg_ℤ (pos ((suc n + (unit - 1)) / unit))
pick Toward (pos n) unit = pos (n / unit)
pick Toward (negsuc n) unit = neg_ℤ (pos (suc n / unit))
pick Floor (pos n) unit = pos (n / unit)
pick Floor (negsuc n) unit = negsuc (n / unit)

-- how many digits fewer than nine
abbrev pub fewer_than_nine : ℤ → ℕ
fewer_than_nine (pos digits) = 9 - digits
fewer_than_nine (negsuc digits) = 10 + digits

-- the multiple of 10^(-digits) that a way of rounding picks for n, which is n itself from nine digits on
abbrev pub round_to : Way → ℤ → ℤ → Result ℤ NumFault
round_to way digits n =
    let unit = 10 ^ fewer_than_nine digits in
    if int_le (pos 9) digits then Ok n else checked (pick way n unit *ℤ pos unit)

-- the greatest whole number that isn't above n / m
abbrev pub floor_quotient : ℤ → ℤ → ℤ
floor_quotient n (pos m) = pick Floor n m
floor_quotient n (negsuc m) = pick Floor (neg_ℤ n) (suc m)

-- what is left of n without m times that
abbrev pub floor_mod : ℤ → ℤ → Result ℤ NumFault
floor_mod n (pos zero) = Err DivZero
floor_mod n m = Ok (n -ℤ m *ℤ floor_quotient n m)

-- n / m cut toward zero
abbrev pub quotient : ℤ → ℤ → Result ℤ NumFault
quotient n (pos zero) = Err DivZero
quotient n m = checked (int_div n m *ℤ pos (10 ^ 9))

-- the least number from `low` on that passes a test which every number above it passes too, by halving: there is one
-- among the first 2^halvings
unfoldable pub least : (ℕ → Bool) → ℕ → ℕ → ℕ
least test low zero = low
least test low (suc halvings) =
    least test (if test (low + (2 ^ halvings - 1)) then low else low + 2 ^ halvings) halvings

-- the square root of n: the least r of 0 or more with 4 * n * 10^9 < (2 * r + 1)^2
abbrev pub is_past_root : ℕ → ℕ → Bool
is_past_root n r = nat_lt (4 * n * 10 ^ 9) ((2 * r + 1) * (2 * r + 1))

abbrev pub sqrt : ℤ → Result ℤ NumFault
sqrt (pos n) = Ok (pos (least (is_past_root n) 0 60))
sqrt (negsuc n) = Err NotNum

-- what that says of the two raw numbers
pub record IsLeastRoot (n root : ℤ) : Type 0 where
  pub past : 4 * unsigned_abs n * 10 ^ 9 < (2 * unsigned_abs root + 1) * (2 * unsigned_abs root + 1)
  pub least : (r : ℕ) → 4 * unsigned_abs n * 10 ^ 9 < (2 * r + 1) * (2 * r + 1) → unsigned_abs root ≤ r
