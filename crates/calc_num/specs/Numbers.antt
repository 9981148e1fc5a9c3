-- The printed text of a number: `-` where it is negative, the whole part without leading zeros but with at least one digit,
-- and, where the fraction isn't 0, a point and the fraction's digits without the zeros at their end. Zero is `0`.
use Rattle.std.specs.Prelude.{ℕ, ◌+◌, ◌-◌, ◌/◌, ◌%◌, ◌^◌, ◌==◌, zero, suc, List, [], ◌∷◌, ◌++◌, length, take, if◌then◌else◌, ℤ, pos, negsuc}
use Rattle.std.specs.List.{suffix_len}
use Rattle.std.specs.Fmt.{decimal}

-- the last digits of a number, as many as are asked for
unfoldable pub last_digits : ℕ → ℕ → List ℕ
last_digits zero n = []
last_digits (suc count) n = last_digits count (n / 10) ++ (48 + n % 10) ∷ []

-- digits without the zeros at their end
abbrev pub without_end_zeros : List ℕ → List ℕ
without_end_zeros digits = take (length digits - suffix_len (λ digit. digit == 48) digits) digits

-- a point and the digits of so many billionths, or nothing where there are none
abbrev pub printed_fraction : ℕ → List ℕ
printed_fraction billionths =
    if billionths == 0 then [] else 46 ∷ without_end_zeros (last_digits 9 billionths)

-- a size in billionths: its whole part and its fraction
abbrev pub printed_size : ℕ → List ℕ
printed_size size = decimal (size / 10 ^ 9) ++ printed_fraction (size % 10 ^ 9)

-- the text of the number with this raw number
abbrev pub printed : ℤ → List ℕ
printed (pos size) = printed_size size
printed (negsuc below) = 45 ∷ printed_size (suc below)
