-- What the parts of an unsigned number are, and what their size comes to.
use Rattle.std.proofs.Common.{◌≡◌, ℕ, ◌*◌, ◌^◌, ◌<◌, ◌==◌, if◌then◌else◌, Bool, true, false, List, [], ◌∷◌, ◌++◌, length, Option, Some, None, ℤ, refl, ap, ◌∙◌, sym, subst}
use Rattle.std.specs.Char.{is_ascii_digit}
use Rattle.std.specs.List.{list_all, take_while}
use Rattle.std.specs.Option.{option_map}
use Rattle.std.proofs.lemmas.Bool.{and_from, cond_both, cond-false}
use Rattle.std.proofs.lemmas.List.Folds.{list_all-append}
use Rattle.std.proofs.lemmas.List.Sums.{take_while-cons}
use Rattle.calc_num.specs.Decimals.{rounded, is_raw}
use Rattle.calc_num.specs.Scaling.{size_of, size_reading, near}
use Rattle.calc_num.specs.Spelling.{Unsigned, front_digits, behind_digits, fraction_digits, behind_fraction, exponent, unsigned, numerator, denominator, reading_of}
use Rattle.calc_num.specs.declared.parse.Reading.TheVariants.{Number, TooLarge}
use Rattle.calc_num.proofs.ReadNumbers.Scale.{power_some}
use Rattle.calc_num.proofs.Arithmetic.Signs.{nearest-sign, size-limited}
use Rattle.calc_num.proofs.ReadNumbers.Sizes.{size_of-near}

pub front-all : (text : List ℕ) → list_all is_ascii_digit (front_digits text) ≡ true
front-all [] = refl
front-all (byte ∷ rest) =
    rw (take_while-cons is_ascii_digit byte rest) (cond_both (is_ascii_digit byte) (byte ∷ take_while is_ascii_digit rest) [] (λ ds. list_all is_ascii_digit ds ≡ true) (λ digit. and_from _ _ digit (front-all rest)) (λ _. refl))

pub fraction-all : (text : List ℕ) → list_all is_ascii_digit (fraction_digits text) ≡ true
fraction-all [] = refl
fraction-all (byte ∷ rest) =
    cond_both (byte == 46) (front_digits rest) [] (λ ds. list_all is_ascii_digit ds ≡ true) (λ _. front-all rest) (λ _. refl)

pub parts-all : (text : List ℕ) → list_all is_ascii_digit (front_digits text ++ fraction_digits (behind_digits text)) ≡ true
parts-all text =
    list_all-append is_ascii_digit (front_digits text) (fraction_digits (behind_digits text)) ∙ and_from _ _ (front-all text) (fraction-all (behind_digits text))

-- an unsigned number's size where its exponent is known up to the bound
size_of-exponent : (whole fraction : List ℕ) (o : Option ℤ) (e : ℤ) → list_all is_ascii_digit (whole ++ fraction) ≡ true → length whole < 2 ^ 64 → length fraction < 2 ^ 64 → option_map near o ≡ Some e → Some (size_of record { whole = whole; fraction = fraction; exponent = e }) ≡ option_map size_of (option_map (λ power. record { whole = whole; fraction = fraction; exponent = power }) o)
size_of-exponent whole fraction None e all short_whole short_fraction is_near = cc
size_of-exponent whole fraction (Some power) e all short_whole short_fraction is_near =
    let same : e ≡ near power = cc in
    ap Some (ap (λ p. size_of record { whole = whole; fraction = fraction; exponent = p }) same ∙ size_of-near whole fraction power all short_whole short_fraction)

pub size_of-parts : (text whole fraction : List ℕ) (e : ℤ) → whole ≡ front_digits text → fraction ≡ fraction_digits (behind_digits text) → length whole < 2 ^ 64 → length fraction < 2 ^ 64 → (length (whole ++ fraction) == 0) ≡ false → option_map near (exponent (behind_fraction (behind_digits text))) ≡ Some e → Some (size_of record { whole = whole; fraction = fraction; exponent = e }) ≡ option_map size_of (unsigned text)
size_of-parts text whole fraction e is_whole is_fraction short_whole short_fraction some is_near =
    let front = front_digits text in
    let behind = fraction_digits (behind_digits text) in
    let o = exponent (behind_fraction (behind_digits text)) in
    let not_bare : (length (front ++ behind) == 0) ≡ false =
    subst (λ ds. (length (front ++ ds) == 0) ≡ false) is_fraction (subst (λ ds. (length (ds ++ fraction) == 0) ≡ false) is_whole some) in
    let sized = size_of-exponent front behind o e (parts-all text) (subst (λ ds. length ds < 2 ^ 64) is_whole short_whole) (subst (λ ds. length ds < 2 ^ 64) is_fraction short_fraction) is_near in
    rw (is_whole, is_fraction) (sized ∙ ap (option_map size_of) (sym (cond-false (length (front ++ behind) == 0) None (option_map (λ power. record { whole = front; fraction = behind; exponent = power }) o) not_bare)))

-- a rounded size as a reading
pub reading_of-size : (negative : Bool) (o : Option Unsigned) → size_reading negative (option_map size_of o) ≡ reading_of negative o
reading_of-size negative None = refl
reading_of-size negative (Some n) =
    let signed = nearest-sign negative (numerator n * 10 ^ 9) (denominator n) (power_some _) in
    size-limited Number TooLarge negative (rounded (numerator n * 10 ^ 9) (denominator n)) ∙ ap (λ raw. if is_raw raw then Number raw else TooLarge) (sym signed)
