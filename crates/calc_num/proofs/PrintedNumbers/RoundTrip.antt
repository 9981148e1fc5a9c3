-- A printed number is read as itself.
use Rattle.std.proofs.Common.{◌≡◌, ℕ, zero, suc, ◌+◌, ◌-◌, ◌*◌, ◌/◌, ◌%◌, ◌^◌, ◌<◌, ◌≤◌, ◌==◌, ◌||◌, if◌then◌else◌, Bool, true, false, List, [], ◌∷◌, ◌++◌, length, take, drop, get_or, reverse, Option, Some, None, ℤ, pos, negsuc, inl, inr, refl, ap, ◌∙◌, sym, subst, arith}
use Rattle.std.specs.Char.{is_ascii_digit}
use Rattle.std.specs.List.{fold, list_all, prefix_len, suffix_len}
use Rattle.std.specs.Fmt.{decimal}
use Rattle.std.specs.Option.{option_map}
use Rattle.std.proofs.Math.Nat.{pow-suc}
use Rattle.std.proofs.lemmas.Nat.{pow-add}
use Rattle.std.proofs.lemmas.Bool.{and_from, and_parts, cond-true, cond-false, cases_eq, eqb-true, eq-eqb, le-leb, ne_eqb, lt-ltb, ltb-true, or_from, false≢true}
use Rattle.std.proofs.lemmas.Fmt.{decimal_by_steps_wide}
use Rattle.std.proofs.lemmas.List.{length-append, take_at, drop_at, take-append-drop, length-take-le, length-drop, get_or-drop, get_or-reverse, append-nil}
use Rattle.std.proofs.lemmas.List.Sums.{fold_push, fold-append, prefix_len_passes, suffix_len-le-length}
use Rattle.std.proofs.lemmas.List.Folds.{list_all-append}
use Rattle.calc_num.specs.Decimals.{rounded, is_raw, IsRaw, with_sign}
use Rattle.calc_num.specs.Numbers.{last_digits, without_end_zeros, printed_fraction, printed_size, printed}
use Rattle.calc_num.specs.Spelling.{Unsigned, front_digits, behind_digits, digits_number, fraction_digits, behind_fraction, exponent, unsigned, numerator, denominator, nearest_raw, is_negative, behind_sign, reading_of, reading}
use Rattle.calc_num.specs.declared.parse.Reading.TheVariants.{Number, TooLarge}
use Rattle.calc_num.proofs.PrintedNumbers.Digits.{length-last_digits}
use Rattle.calc_num.proofs.Arithmetic.Signs.{nearest-sign, is_raw-sign}
use Rattle.calc_num.proofs.ReadNumbers.Scale.{digit_range, digits_behind, both_sides, power_some, rounded-scaled, rounded-whole}

-- a digit of a number below ten
digit_is : (n : ℕ) → n < 10 → is_ascii_digit (48 + n) ≡ true
digit_is n small = and_from _ _ (le-leb 48 (48 + n) (omega arith)) (le-leb (48 + n) 57 (omega arith))

-- one more digit at the end
digits_number-push : (ds : List ℕ) (n : ℕ) → digits_number (ds ++ (48 + n) ∷ []) ≡ 10 * digits_number ds + n
digits_number-push ds n =
    let last : 48 + n - 48 ≡ n = omega arith in
    fold_push (λ number digit. 10 * number + (digit - 48)) 0 ds (48 + n) ∙ ap (λ k. 10 * digits_number ds + k) last

all_push : (ds : List ℕ) (n : ℕ) → n < 10 → list_all is_ascii_digit ds ≡ true → list_all is_ascii_digit (ds ++ (48 + n) ∷ []) ≡ true
all_push ds n small all =
    list_all-append is_ascii_digit ds ((48 + n) ∷ []) ∙ and_from _ _ all (and_from _ _ (digit_is n small) refl)

-- what `decimal` writes are the number's digits
pub decimal-digits : (n : ℕ) → n < 10 ^ 64 → (list_all is_ascii_digit (decimal n) ≡ true) × (digits_number (decimal n) ≡ n) × (0 < length (decimal n))
decimal-digits =
    decimal_by_steps_wide (λ n ds. (list_all is_ascii_digit ds ≡ true) × (digits_number ds ≡ n) × (0 < length ds)) (λ n small. (all_push [] n small refl, digits_number-push [] n ∙ omega arith, omega arith)) (λ n ds tens front. (all_push ds (n % 10) (omega arith) front.0, digits_number-push ds (n % 10) ∙ omega (arith, front.1), omega (arith, length-append ds ((48 + n % 10) ∷ []))))

-- the last digits of a number are its digits where it has no more
pub last_digits-digits : (count n : ℕ) → n < 10 ^ count → (list_all is_ascii_digit (last_digits count n) ≡ true) × (digits_number (last_digits count n) ≡ n)
unfolding last_digits
last_digits-digits zero n small = (refl, omega arith)
last_digits-digits (suc count) n small =
    let power = pow-suc 10 count in
    let front = last_digits-digits count (n / 10) (omega arith) in
    (all_push (last_digits count (n / 10)) (n % 10) (omega arith) front.0, digits_number-push (last_digits count (n / 10)) (n % 10) ∙ omega (arith, front.1))

-- whether a list begins with an element that passes
abbrev pub begins : (ℕ → Bool) → List ℕ → Bool
begins test [] = false
begins test (x ∷ xs) = test x

prefix_len-front : (ds rest : List ℕ) → list_all is_ascii_digit ds ≡ true → begins is_ascii_digit rest ≡ false → prefix_len is_ascii_digit (ds ++ rest) ≡ length ds
prefix_len-front [] [] all ends = refl
prefix_len-front [] (x ∷ xs) all ends = cond-false (is_ascii_digit x) (1 + prefix_len is_ascii_digit xs) 0 ends
prefix_len-front (d ∷ ds) rest all ends =
    let parts = and_parts (is_ascii_digit d) (list_all is_ascii_digit ds) all in
    let more = prefix_len-front ds rest parts.1 ends in
    cond-true (is_ascii_digit d) (1 + prefix_len is_ascii_digit (ds ++ rest)) 0 parts.0 ∙ omega arith

-- digits up to what is no digit
pub front_digits-append : (ds rest : List ℕ) → list_all is_ascii_digit ds ≡ true → begins is_ascii_digit rest ≡ false → front_digits (ds ++ rest) ≡ ds
front_digits-append ds rest all ends =
    ap (λ k. take k (ds ++ rest)) (prefix_len-front ds rest all ends) ∙ take_at ds rest (length ds) refl

pub behind_digits-append : (ds rest : List ℕ) → list_all is_ascii_digit ds ≡ true → begins is_ascii_digit rest ≡ false → behind_digits (ds ++ rest) ≡ rest
behind_digits-append ds rest all ends =
    ap (λ k. drop k (ds ++ rest)) (prefix_len-front ds rest all ends) ∙ drop_at ds rest (length ds) refl

abbrev from_parts : List ℕ → List ℕ → List ℕ → Option Unsigned
from_parts whole fraction rest =
    if length (whole ++ fraction) == 0 then None else option_map (λ power. record { whole = whole; fraction = fraction; exponent = power }) (exponent rest)

from_some : (whole fraction rest : List ℕ) → 0 < length (whole ++ fraction) → from_parts whole fraction rest ≡ option_map (λ power. record { whole = whole; fraction = fraction; exponent = power }) (exponent rest)
from_some whole fraction rest some =
    cond-false (length (whole ++ fraction) == 0) None (option_map (λ power. record { whole = whole; fraction = fraction; exponent = power }) (exponent rest)) (ne_eqb (length (whole ++ fraction)) 0 (omega arith))

no_fraction : (rest : List ℕ) → begins (λ byte. byte == 46) rest ≡ false → fraction_digits rest ≡ []
no_fraction [] none = refl
no_fraction (x ∷ xs) none = cond-false (x == 46) (front_digits xs) [] none

behind_no_fraction : (rest : List ℕ) → begins (λ byte. byte == 46) rest ≡ false → behind_fraction rest ≡ rest
behind_no_fraction [] none = refl
behind_no_fraction (x ∷ xs) none = cond-false (x == 46) (behind_digits xs) (x ∷ xs) none

-- the spellings of an unsigned number: digits with an exponent if need be
pub unsigned-whole : (ds rest : List ℕ) → list_all is_ascii_digit ds ≡ true → 0 < length ds → begins is_ascii_digit rest ≡ false → begins (λ byte. byte == 46) rest ≡ false → unsigned (ds ++ rest) ≡ option_map (λ power. record { whole = ds; fraction = []; exponent = power }) (exponent rest)
unsigned-whole ds rest all some ends no_point =
    let behind = behind_digits-append ds rest all ends in
    ap (λ whole. from_parts whole (fraction_digits (behind_digits (ds ++ rest))) (behind_fraction (behind_digits (ds ++ rest)))) (front_digits-append ds rest all ends) ∙ ap (λ tail. from_parts ds (fraction_digits tail) (behind_fraction tail)) behind ∙ ap (λ fraction. from_parts ds fraction (behind_fraction rest)) (no_fraction rest no_point) ∙ ap (from_parts ds []) (behind_no_fraction rest no_point) ∙ from_some ds [] rest (omega (arith, length-append ds []))

-- and digits round a point, with at least one on either side
pub unsigned-point : (ds fs rest : List ℕ) → list_all is_ascii_digit ds ≡ true → list_all is_ascii_digit fs ≡ true → 0 < length ds + length fs → begins is_ascii_digit rest ≡ false → unsigned (ds ++ 46 ∷ (fs ++ rest)) ≡ option_map (λ power. record { whole = ds; fraction = fs; exponent = power }) (exponent rest)
unsigned-point ds fs rest all all_fs some ends =
    let tail = 46 ∷ (fs ++ rest) in
    ap (λ whole. from_parts whole (fraction_digits (behind_digits (ds ++ tail))) (behind_fraction (behind_digits (ds ++ tail)))) (front_digits-append ds tail all refl) ∙ ap (λ t. from_parts ds (fraction_digits t) (behind_fraction t)) (behind_digits-append ds tail all refl) ∙ ap (λ fraction. from_parts ds fraction (behind_digits (fs ++ rest))) (front_digits-append fs rest all_fs ends) ∙ ap (from_parts ds fs) (behind_digits-append fs rest all_fs ends) ∙ from_some ds fs rest (omega (arith, length-append ds fs))

-- zeros add nothing
zeros : (ds : List ℕ) → ((k : ℕ) → k < length ds → get_or ds k 48 ≡ 48) → digits_number ds ≡ 0
zeros [] each = refl
zeros (d ∷ ds) each =
    let first : d ≡ 48 = each 0 (omega arith) in
    let none : 10 * 0 + (d - 48) ≡ 0 = omega arith in
    ap (λ n. fold (λ number digit. 10 * number + (digit - 48)) n ds) none ∙ zeros ds (λ k within. each (suc k) (omega arith))

at_end : (ds : List ℕ) (k : ℕ) → k < suffix_len (λ digit. digit == 48) ds → get_or ds (length ds - 1 - k) 48 ≡ 48
at_end ds k within =
    let short = suffix_len-le-length (λ digit. digit == 48) ds in
    let passes = prefix_len_passes (λ digit. digit == 48) (reverse ds) k 48 within in
    sym (get_or-reverse ds k 48 (omega arith)) ∙ eqb-true (get_or (reverse ds) k 48) 48 passes

without_zeros : (ds : List ℕ) (kept : ℕ) → kept + suffix_len (λ digit. digit == 48) ds ≡ length ds → digits_number ds ≡ digits_number (take kept ds) * 10 ^ (length ds - kept)
without_zeros ds kept count =
    let end = drop kept ds in
    let long = length-drop kept ds in
    let nothing : digits_number end ≡ 0 =
    zeros end (λ k within.
    let at : length ds - 1 - (length ds - 1 - (kept + k)) ≡ kept + k = omega arith in
    get_or-drop kept ds k 48 ∙ ap (λ i. get_or ds i 48) (sym at) ∙ at_end ds (length ds - 1 - (kept + k)) (omega arith)) in
    let parts : digits_number ds ≡ digits_number (take kept ds) * 10 ^ length end + digits_number end =
    ap digits_number (sym (take-append-drop kept ds)) ∙ fold-append (λ number digit. 10 * number + (digit - 48)) 0 (take kept ds) end ∙ digits_behind (digits_number (take kept ds)) end in
    parts ∙ rw (nothing, long) (omega arith)

-- the text spells an unsigned number whose nearest size is n
pub record SpellsSize (text : List ℕ) (n : ℕ) : Type 0 where
  pub parts : Unsigned
  pub spelled : unsigned text ≡ Some parts
  pub nearest_size : rounded (numerator parts * 10 ^ 9) (denominator parts) ≡ n

whole_spelled : (n : ℕ) → n < 10 ^ 27 → n % 10 ^ 9 ≡ 0 → SpellsSize (decimal (n / 10 ^ 9) ++ []) n
whole_spelled n small none =
    let ds = decimal (n / 10 ^ 9) in
    let digits = decimal-digits (n / 10 ^ 9) (omega arith) in
    let number : digits_number (ds ++ []) * 10 ^ 0 * 10 ^ 9 ≡ n =
    ap (λ xs. digits_number xs * 10 ^ 0 * 10 ^ 9) (append-nil ds) ∙ omega (arith, digits.1) in
    record {
      parts = record { whole = ds; fraction = []; exponent = pos 0 };
      spelled = unsigned-whole ds [] digits.0 digits.2 refl refl;
      nearest_size = ap (λ p. rounded p 1) number ∙ rounded-whole n;
    }

-- the digits kept of a fraction
pub record KeptDigits (fs : List ℕ) (billionths : ℕ) : Type 0 where
  pub digits : list_all is_ascii_digit fs ≡ true
  pub few : length fs ≤ 9
  pub number : billionths ≡ digits_number fs * 10 ^ (9 - length fs)

kept_digits : (billionths : ℕ) → billionths < 10 ^ 9 → KeptDigits (without_end_zeros (last_digits 9 billionths)) billionths
kept_digits billionths small =
    let nine = last_digits 9 billionths in
    let zeros_behind = suffix_len (λ digit. digit == 48) nine in
    let kept = 9 - zeros_behind in
    let known = last_digits-digits 9 billionths small in
    let long = length-last_digits 9 billionths in
    let within = suffix_len-le-length (λ digit. digit == 48) nine in
    let is_kept : without_end_zeros nine ≡ take kept nine = ap (λ k. take (k - zeros_behind) nine) long in
    let length_kept : length (take kept nine) ≡ kept = length-take-le kept nine (omega arith) in
    let parts = without_zeros nine kept (omega arith) in
    let all = and_parts (list_all is_ascii_digit (take kept nine)) (list_all is_ascii_digit (drop kept nine)) (sym (list_all-append is_ascii_digit (take kept nine) (drop kept nine)) ∙ ap (list_all is_ascii_digit) (take-append-drop kept nine) ∙ known.0) in
    subst (λ fs. KeptDigits fs billionths) (sym is_kept) record {
      digits = all.0;
      few = omega arith;
      number = sym known.1 ∙ parts ∙ ap (λ k. digits_number (take kept nine) * 10 ^ k) (omega arith);
    }

fraction_spelled : (n : ℕ) (fs : List ℕ) → n < 10 ^ 27 → KeptDigits fs (n % 10 ^ 9) → SpellsSize (decimal (n / 10 ^ 9) ++ 46 ∷ fs) n
fraction_spelled n fs small kept =
    let ds = decimal (n / 10 ^ 9) in
    let digits = decimal-digits (n / 10 ^ 9) (omega arith) in
    let q = 10 ^ length fs in
    let rest = 10 ^ (9 - length fs) in
    let f = digits_number fs in
    let few = kept.few in
    let nine : 9 - length fs + length fs ≡ 9 = omega arith in
    let powers : rest * q ≡ 10 ^ 9 =
    sym (pow-add 10 (9 - length fs) (length fs)) ∙ ap (λ k. 10 ^ k) nine in
    let size : n ≡ n / 10 ^ 9 * 10 ^ 9 + f * rest = omega (arith, kept.number) in
    let number : digits_number (ds ++ fs) ≡ n / 10 ^ 9 * q + f =
    both_sides ds fs ∙ ap (λ w. w * q + f) digits.1 in
    let exact : digits_number (ds ++ fs) * 10 ^ 0 * 10 ^ 9 ≡ q * n =
    ap (λ k. k * 10 ^ 0 * 10 ^ 9) number ∙ omega (arith, ap (λ k. f * k) powers, ap (λ k. q * k) size) in
    let same : length fs + 0 ≡ length fs = omega arith in
    let once : q ≡ q * 1 = omega arith in
    let one : 10 ^ (length fs + 0) ≡ q * 1 = ap (λ k. 10 ^ k) same ∙ once in
    let end : ds ++ 46 ∷ (fs ++ []) ≡ ds ++ 46 ∷ fs = ap (λ xs. ds ++ 46 ∷ xs) (append-nil fs) in
    record {
      parts = record { whole = ds; fraction = fs; exponent = pos 0 };
      spelled = ap unsigned (sym end) ∙ unsigned-point ds fs [] digits.0 kept.digits (omega (arith, digits.2)) refl;
      nearest_size = rw (exact, one) (rounded-scaled q n 1 (power_some (length fs)) ∙ rounded-whole n);
    }

pub size-spelled : (n : ℕ) → n < 10 ^ 27 → SpellsSize (printed_size n) n
size-spelled n small =
    let f = n % 10 ^ 9 in
    let fs = without_end_zeros (last_digits 9 f) in
    elim (cases_eq f 0) [
      | inl none ↦
          subst (λ text. SpellsSize (decimal (n / 10 ^ 9) ++ text) n) (sym (cond-true (f == 0) [] (46 ∷ fs) (eq-eqb f 0 none))) (whole_spelled n small none)
      | inr some ↦
          subst (λ text. SpellsSize (decimal (n / 10 ^ 9) ++ text) n) (sym (cond-false (f == 0) [] (46 ∷ fs) (ne_eqb f 0 some))) (fraction_spelled n fs small (kept_digits f (omega arith)))
    ]

-- a text that begins with a digit has no sign
unsigned_front : (text : List ℕ) → begins is_ascii_digit text ≡ true → (is_negative text ≡ false) × (behind_sign text ≡ text)
unsigned_front [] first = absurd (false≢true first)
unsigned_front (d ∷ ds) first =
    let digit = digit_range d first in
    let no_minus = ne_eqb d 45 (omega arith) in
    let no_plus = ne_eqb d 43 (omega arith) in
    (no_minus, cond-false (d == 45 || d == 43) ds (d ∷ ds) (or_from _ _ no_minus no_plus))

begins_append : (ds rest : List ℕ) → list_all is_ascii_digit ds ≡ true → 0 < length ds → begins is_ascii_digit (ds ++ rest) ≡ true
begins_append [] rest all some = absurd (omega arith)
begins_append (d ∷ ds) rest all some = (and_parts (is_ascii_digit d) (list_all is_ascii_digit ds) all).0

size-front : (n : ℕ) → n < 10 ^ 27 → begins is_ascii_digit (printed_size n) ≡ true
size-front n small =
    let digits = decimal-digits (n / 10 ^ 9) (omega arith) in
    begins_append (decimal (n / 10 ^ 9)) (printed_fraction (n % 10 ^ 9)) digits.0 digits.2

-- a reading of a size's text gives the number with that size and sign
read_size : (negative : Bool) (text : List ℕ) (n : ℕ) → n < 10 ^ 27 → SpellsSize text n → reading_of negative (unsigned text) ≡ Number (with_sign negative n)
read_size negative text n small spells =
    let value : nearest_raw negative spells.parts ≡ with_sign negative n =
    nearest-sign negative (numerator spells.parts * 10 ^ 9) (denominator spells.parts) (power_some _) ∙ ap (with_sign negative) spells.nearest_size in
    ap (reading_of negative) spells.spelled ∙ ap (λ raw. if is_raw raw then Number raw else TooLarge) value ∙ cond-true (is_raw (with_sign negative n)) (Number (with_sign negative n)) TooLarge (is_raw-sign negative n ∙ lt-ltb n (10 ^ 27) small)

-- what a number prints is read as that number
pub reading-printed : (z : ℤ) → IsRaw z → reading (printed z) ≡ Number z
reading-printed (pos n) raw =
    let small = ltb-true n (10 ^ 27) raw in
    let front = unsigned_front (printed_size n) (size-front n small) in
    ap (λ negative. reading_of negative (unsigned (behind_sign (printed_size n)))) front.0 ∙ ap (λ text. reading_of false (unsigned text)) front.1 ∙ read_size false (printed_size n) n small (size-spelled n small)
reading-printed (negsuc n) raw =
    let small = ltb-true (suc n) (10 ^ 27) raw in
    read_size true (printed_size (suc n)) (suc n) small (size-spelled (suc n) small)
