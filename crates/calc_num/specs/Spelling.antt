-- Which texts are numbers, and which number each is.
-- An unsigned number is digits, a point with digits on either or both sides of it, or the same with an exponent behind:
-- `e` or `E`, a sign if need be, and digits. A signed number may have a sign before it. Its value is exact: the digits
-- as one whole number, shifted by the exponent and by the digits behind the point. A reading is the nearest raw number.
use Rattle.std.specs.Prelude.{ℕ, ◌+◌, ◌-◌, ◌*◌, ◌^◌, ◌==◌, suc, Bool, false, ◌||◌, List, [], ◌∷◌, ◌++◌, length, drop, Option, Some, None, if◌then◌else◌, ℤ, pos, negsuc}
use Rattle.std.specs.Char.{is_ascii_digit}
use Rattle.std.specs.List.{fold, prefix_len, take_while}
use Rattle.std.specs.Option.{option_map}
use Rattle.calc_num.specs.Decimals.{nearest, is_raw, with_sign}
use Rattle.calc_num.specs.declared.parse.Reading.{Reading}
use Rattle.calc_num.specs.declared.parse.Reading.TheVariants.{Number, TooLarge, NotNumber}

-- the parts of an unsigned number: its digits before and behind the point, and its exponent
pub record Unsigned : Type 0 where
  pub whole : List ℕ
  pub fraction : List ℕ
  pub exponent : ℤ

-- the digits that a text begins with, and what stands behind them
abbrev pub front_digits : List ℕ → List ℕ
front_digits text = take_while is_ascii_digit text

abbrev pub behind_digits : List ℕ → List ℕ
behind_digits text = drop (prefix_len is_ascii_digit text) text

-- the number that digits write
abbrev pub digits_number : List ℕ → ℕ
digits_number digits = fold (λ number digit. 10 * number + (digit - 48)) 0 digits

-- the digits behind a point that a text begins with, and what stands behind these
abbrev pub fraction_digits : List ℕ → List ℕ
fraction_digits [] = []
fraction_digits (byte ∷ rest) = if byte == 46 then front_digits rest else []

abbrev pub behind_fraction : List ℕ → List ℕ
behind_fraction [] = []
behind_fraction (byte ∷ rest) = if byte == 46 then behind_digits rest else byte ∷ rest

-- a text that is digits alone, at least one
abbrev pub whole_number : List ℕ → Option ℕ
whole_number text =
    if length text == 0 then None else (if length (behind_digits text) == 0 then Some (digits_number text) else None)

-- a sign that a text may begin with, and what stands behind it
abbrev pub is_negative : List ℕ → Bool
is_negative [] = false
is_negative (byte ∷ rest) = byte == 45

abbrev pub behind_sign : List ℕ → List ℕ
behind_sign [] = []
behind_sign (byte ∷ rest) = if byte == 45 || byte == 43 then rest else byte ∷ rest

-- digits alone with an optional sign
abbrev pub signed_whole : List ℕ → Option ℤ
signed_whole text = option_map (with_sign (is_negative text)) (whole_number (behind_sign text))

-- an exponent that is a whole text, 0 where the text is empty
abbrev pub exponent : List ℕ → Option ℤ
exponent [] = Some (pos 0)
exponent (byte ∷ rest) = if byte == 101 || byte == 69 then signed_whole rest else None

-- the parts of a text that is an unsigned number
abbrev pub unsigned : List ℕ → Option Unsigned
unsigned text =
    let whole = front_digits text in
    let fraction = fraction_digits (behind_digits text) in
    if length (whole ++ fraction) == 0
    then None
    else option_map (λ power. record { whole = whole; fraction = fraction; exponent = power }) (exponent (behind_fraction (behind_digits text)))

-- the value of an unsigned number as an exact fraction
abbrev pub rise : ℤ → ℕ
rise (pos n) = n
rise (negsuc n) = 0

abbrev pub fall : ℤ → ℕ
fall (pos n) = 0
fall (negsuc n) = suc n

abbrev pub numerator : Unsigned → ℕ
numerator n = digits_number (n.whole ++ n.fraction) * 10 ^ rise n.exponent

abbrev pub denominator : Unsigned → ℕ
denominator n = 10 ^ (length n.fraction + fall n.exponent)

-- the nearest raw number to an unsigned number, or to its negative
abbrev pub nearest_raw : Bool → Unsigned → ℤ
nearest_raw negative n = nearest (with_sign negative (numerator n * 10 ^ 9)) (denominator n)

abbrev pub reading_of : Bool → Option Unsigned → Reading
reading_of negative None = NotNumber
reading_of negative (Some n) = if is_raw (nearest_raw negative n) then Number (nearest_raw negative n) else TooLarge

-- the reading of a text: an unsigned number with an optional sign before it
abbrev pub reading : List ℕ → Reading
reading text = reading_of (is_negative text) (unsigned (behind_sign text))
