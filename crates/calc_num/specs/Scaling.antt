-- What the sizes of numbers come to while their digits are read. A size counts billionths, and 10^27 stands for each
-- size that is as large or larger.
use Rattle.std.specs.Prelude.{ℕ, ◌+◌, ◌*◌, ◌^◌, min, suc, Bool, if◌then◌else◌, List, length, Option, Some, None, ℤ, pos, negsuc, neg_ℤ}
use Rattle.calc_num.specs.Decimals.{rounded, is_raw, with_sign}
use Rattle.calc_num.specs.declared.parse.Reading.{Reading}
use Rattle.calc_num.specs.declared.parse.Reading.TheVariants.{Number, TooLarge, NotNumber}
use Rattle.calc_num.specs.Spelling.{Unsigned, digits_number, numerator, denominator}

-- exponents of 10^20 and more aren't told apart
abbrev pub near : ℤ → ℤ
near (pos n) = pos (min n (10 ^ 20))
near (negsuc n) = neg_ℤ (pos (min (suc n) (10 ^ 20)))

-- the nearest size to an unsigned number
abbrev pub size_of : Unsigned → ℕ
size_of n = min (rounded (numerator n * 10 ^ 9) (denominator n)) (10 ^ 27)

-- a size that may be at the limit as a reading, of the number with that size or of its negative
abbrev pub size_reading : Bool → Option ℕ → Reading
size_reading negative None = NotNumber
size_reading negative (Some size) =
    if is_raw (with_sign negative size) then Number (with_sign negative size) else TooLarge

-- the size of the digits read so far and those to come, with so many places left before the point where digits are cut off;
-- with none left, the digits to come no longer count
abbrev pub worth : ℕ → Option ℕ → List ℕ → ℕ
worth size None digits = min size (10 ^ 27)
worth size (Some places) digits =
    min (rounded ((size * 10 ^ length digits + digits_number digits) * 10 ^ places) (10 ^ length digits)) (10 ^ 27)
