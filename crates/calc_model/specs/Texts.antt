-- Functions of texts, after OpenFormula, 6.20. They count characters, which are those that the bytes spell in UTF-8.
use Rattle.std.specs.Prelude.{ℕ, ℤ, pos, negsuc, suc, ◌+◌, ◌-◌, ◌*◌, ◌^◌, nat_eq, List, [], ◌∷◌, drop, length, replicate, take, Option, Some, None}
use Rattle.std.specs.List.{find, flat_map, starts_with}
use Rattle.std.specs.Str.{bytes_eq, chars, encode_utf8_all}
use Rattle.calc_addr.specs.Places.{from_to}
use Rattle.calc_num.specs.Decimals.{checked}
use Rattle.calc_num.specs.Spelling.{reading}
use Rattle.calc_num.specs.declared.parse.Reading.{Reading}
use Rattle.calc_num.specs.declared.parse.Reading.TheVariants as readings
use Rattle.calc_model.specs.declared.fault.Fault.TheVariants.{BadValue, Over}
use Rattle.calc_model.specs.declared.value.Value.{Value}
use Rattle.calc_model.specs.declared.value.Value.TheVariants.{Number, Words, Bad, Blank}
use Rattle.calc_model.specs.Meanings.{Meaning}
use Rattle.calc_model.specs.Operators.{from_ok, kept_words, truth, value_of}
use Rattle.calc_model.specs.Parameters.{all_ok, text, whole}
use Rattle.std.specs.Prelude.{map}

-- a number of things, where it lies in the range of numbers
abbrev pub counted : ℕ → Value
counted count = value_of (checked (pos (count * 10 ^ 9)))

-- the value for a number that isn't negative
abbrev pub if_not_negative : ℤ → (ℕ → Value) → Value
if_not_negative (pos n) next = next n
if_not_negative (negsuc n) next = Bad BadValue

-- the value for a number of 1 or more
abbrev pub if_positive : ℤ → (ℕ → Value) → Value
if_positive (pos (suc n)) next = next (suc n)
if_positive _ next = Bad BadValue

abbrev pub spelled : List ℕ → Value
spelled characters = Words (encode_utf8_all characters)

abbrev pub len : List Meaning → Value
len (t ∷ []) = from_ok (text t) (λ bytes. counted (length (chars bytes)))
len _ = Bad BadValue

-- some of the characters of a text, by a count, which is 1 where it is missing
abbrev pub part_of : (ℕ → List ℕ → List ℕ) → List Meaning → Value
part_of part (t ∷ []) = from_ok (text t) (λ bytes. spelled (part 1 (chars bytes)))
part_of part (t ∷ count ∷ []) =
    from_ok (text t) (λ bytes. from_ok (whole count) (λ n. if_not_negative n (λ k. spelled (part k (chars bytes)))))
part_of part _ = Bad BadValue

abbrev pub left : List Meaning → Value
left = part_of take

-- the last ones, or all
abbrev pub last_ones : ℕ → List ℕ → List ℕ
last_ones count characters = drop (length characters - count) characters

abbrev pub right : List Meaning → Value
right = part_of last_ones

-- from the character of a number on, so many
abbrev pub mid : List Meaning → Value
mid (t ∷ start ∷ count ∷ []) =
    from_ok (text t) (λ bytes. from_ok (whole start) (λ s. from_ok (whole count) (λ n.
    if_positive s (λ place. if_not_negative n (λ k. spelled (take k (drop (place - 1) (chars bytes))))))))
mid _ = Bad BadValue

-- the number of the first place, not before that one, at which the characters stand
abbrev pub place_of : List ℕ → List ℕ → ℕ → Option ℕ
place_of sought characters start =
    find (λ place. starts_with nat_eq (drop (place - 1) characters) sought) (from_to start (length characters + 1))

abbrev pub counted_or_none : Option ℕ → Value
counted_or_none (Some place) = counted place
counted_or_none None = Bad BadValue

abbrev pub found : List ℕ → List ℕ → ℤ → Value
found sought bytes start = if_positive start (λ place. counted_or_none (place_of (chars sought) (chars bytes) place))

abbrev pub find_ : List Meaning → Value
find_ (sought ∷ t ∷ []) = from_ok (text sought) (λ s. from_ok (text t) (λ bytes. found s bytes (pos 1)))
find_ (sought ∷ t ∷ start ∷ []) =
    from_ok (text sought) (λ s. from_ok (text t) (λ bytes. from_ok (whole start) (found s bytes)))
find_ _ = Bad BadValue

-- the text so many times
abbrev pub rept : List Meaning → Value
rept (t ∷ count ∷ []) =
    from_ok (text t) (λ bytes. from_ok (whole count) (λ n. if_not_negative n (λ k. kept_words (flat_map (λ b. b) (replicate k bytes)))))
rept _ = Bad BadValue

abbrev pub exact : List Meaning → Value
exact (x ∷ y ∷ []) = from_ok (text x) (λ s. from_ok (text y) (λ t. truth (bytes_eq s t)))
exact _ = Bad BadValue

abbrev pub concatenate : List Meaning → Value
concatenate parameters = from_ok (all_ok (map text parameters)) (λ texts. kept_words (flat_map (λ bytes. bytes) texts))

abbrev pub value_of_reading : Reading → Value
value_of_reading (readings.Number n) = Number n
value_of_reading readings.TooLarge = Bad Over
value_of_reading readings.NotNumber = Bad BadValue

-- a text that is a signed number is that number
abbrev pub value_of_scalar : Value → Value
value_of_scalar (Number n) = Number n
value_of_scalar (Words bytes) = value_of_reading (reading bytes)
value_of_scalar (Bad fault) = Bad fault
value_of_scalar Blank = Number (pos 0)

abbrev pub value : List Meaning → Value
value (x ∷ []) = value_of_scalar x.scalar
value _ = Bad BadValue
