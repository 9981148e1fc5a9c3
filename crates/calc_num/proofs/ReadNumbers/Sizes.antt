-- The size of an unsigned number by its digits and places, and what exponents that are far out come to.
use Rattle.std.proofs.Common.{◌≡◌, ℕ, zero, suc, ◌+◌, ◌*◌, ◌^◌, ◌<◌, ◌≤◌, min, true, false, unsigned_abs, List, ◌++◌, length, Some, ℤ, pos, negsuc, neg_ℤ, ◌+ℤ◌, ◌<ℤ◌, inl, inr, refl, ap, ◌∙◌, sym, subst, arith}
use lib.Signed.{lt_z}
use Rattle.std.specs.Char.{is_ascii_digit}
use Rattle.std.specs.List.{list_all}
use Rattle.std.proofs.Math.Nat.{mul-le-mul_right, pow-le-pow_right, div-eq_of_lt, le-div_iff_mul-le, min-eq_left, min-eq_right}
use Rattle.std.proofs.lemmas.Bool.{cases_lt, cases_eq, false≢true}
use Rattle.std.proofs.lemmas.Int.{ints}
use Rattle.std.proofs.lemmas.List.{length-append}
use Rattle.std.proofs.lemmas.Nat.{pow-add}
use Rattle.calc_num.specs.Decimals.{rounded}
use Rattle.calc_num.specs.Scaling.{worth, size_of, near}
use Rattle.calc_num.specs.Spelling.{digits_number}
use Rattle.calc_num.proofs.ReadNumbers.Scale.{rounded-scaled, rounded-whole, both_sides, power_some, digits_number-lt}
use Rattle.calc_num.proofs.Arithmetic.Signs.{not_below_zero}

-- a number whose first digit stands behind the tenth place comes to nothing
vanishes : (n w f e : ℕ) → n < 10 ^ (w + f) → w + 10 ≤ e → rounded (n * 10 ^ 0 * 10 ^ 9) (10 ^ (f + e)) ≡ 0
vanishes n w f e small far =
    let room = pow-le-pow_right {n = 10} (omega arith) {i = w + f + 10} {j = f + e} (omega arith) in
    let power = pow-add 10 (w + f) 10 in
    div-eq_of_lt {n = 2 * (n * 10 ^ 0 * 10 ^ 9) + 10 ^ (f + e)} {m = 2 * 10 ^ (f + e)} (omega arith)

-- a number that isn't 0 with so high an exponent is at the limit
overflows : (n f e : ℕ) → 1 ≤ n → f + 18 ≤ e → 10 ^ 27 ≤ rounded (n * 10 ^ e * 10 ^ 9) (10 ^ (f + 0))
overflows n f e some far =
    let room = pow-le-pow_right {n = 10} (omega arith) {i = f + 18} {j = e} far in
    let power = pow-add 10 f 18 in
    let grown = mul-le-mul_right {m = 1} {n = n} (10 ^ e) some in
    let none : f + 0 ≡ f = omega arith in
    let within : 10 ^ 27 * (2 * 10 ^ f) ≤ 2 * (n * 10 ^ e * 10 ^ 9) + 10 ^ f = omega arith in
    rw none ((le-div_iff_mul-le {k = 2 * 10 ^ f} {x = 10 ^ 27} {y = 2 * (n * 10 ^ e * 10 ^ 9) + 10 ^ f} (omega (arith, power_some f))).1 within)

-- the digits of a number, with as many places before the cut as its exponent says
raised : (n w f e : ℕ) → rounded (n * 10 ^ e * 10 ^ 9) (10 ^ (f + 0)) ≡ rounded (n * 10 ^ (w + 9 + e)) (10 ^ (w + f))
raised n w f e =
    let top : n * (10 ^ w * 10 ^ 9 * 10 ^ e) ≡ 10 ^ w * (n * 10 ^ e * 10 ^ 9) = omega arith in
    let none : f + 0 ≡ f = omega arith in
    rw (none, pow-add 10 (w + 9) e, pow-add 10 w 9, pow-add 10 w f, top) (sym (rounded-scaled (10 ^ w) (n * 10 ^ e * 10 ^ 9) (10 ^ f) (power_some w)))

lowered : (n w f e places : ℕ) → places + e ≡ w + 9 → rounded (n * 10 ^ 0 * 10 ^ 9) (10 ^ (f + e)) ≡ rounded (n * 10 ^ places) (10 ^ (w + f))
lowered n w f e places sum =
    let powers : 10 ^ places * 10 ^ e ≡ 10 ^ w * 10 ^ 9 = sym (pow-add 10 places e) ∙ ap (λ k. 10 ^ k) sum ∙ pow-add 10 w 9 in
    let top : 10 ^ w * (n * 10 ^ 0 * 10 ^ 9) ≡ 10 ^ e * (n * 10 ^ places) =
    (omega arith) ∙ ap (λ x. n * x) (sym powers) ∙ omega arith in
    let bottom : 10 ^ w * 10 ^ (f + e) ≡ 10 ^ e * 10 ^ (w + f) = rw (pow-add 10 f e, pow-add 10 w f) (omega arith) in
    sym (rounded-scaled (10 ^ w) (n * 10 ^ 0 * 10 ^ 9) (10 ^ (f + e)) (power_some w)) ∙ rw (top, bottom) (rounded-scaled (10 ^ e) (n * 10 ^ places) (10 ^ (w + f)) (power_some e))

worth-zero : (digits : List ℕ) (places k : ℕ) → length digits ≡ k → worth 0 (Some places) digits ≡ min (rounded (digits_number digits * 10 ^ places) (10 ^ k)) (10 ^ 27)
worth-zero digits places k long =
    let none : 0 * 10 ^ length digits + digits_number digits ≡ digits_number digits = omega arith in
    rw (none, long) refl

-- digits that are read from 0 with the places that the exponent leaves give the number's size
pub worth-size_of : (whole fraction : List ℕ) (exponent : ℤ) (places : ℕ) → pos (length whole + 9) +ℤ exponent ≡ pos places → worth 0 (Some places) (whole ++ fraction) ≡ size_of record { whole = whole; fraction = fraction; exponent = exponent }
worth-size_of whole fraction (pos e) places sum =
    let n = digits_number (whole ++ fraction) in
    let count : places ≡ length whole + 9 + e = omega (arith, ints) in
    worth-zero (whole ++ fraction) places _ (length-append whole fraction) ∙ ap (λ r. min r (10 ^ 27)) (rw count (sym (raised n (length whole) (length fraction) e)))
worth-size_of whole fraction (negsuc e) places sum =
    let n = digits_number (whole ++ fraction) in
    let count : places + suc e ≡ length whole + 9 = omega (arith, ints) in
    worth-zero (whole ++ fraction) places _ (length-append whole fraction) ∙ ap (λ r. min r (10 ^ 27)) (sym (lowered n (length whole) (length fraction) (suc e) places count))

digits_fit : (whole fraction : List ℕ) → list_all is_ascii_digit (whole ++ fraction) ≡ true → digits_number (whole ++ fraction) < 10 ^ (length whole + length fraction)
digits_fit whole fraction all =
    subst (λ k. digits_number (whole ++ fraction) < 10 ^ k) (length-append whole fraction) (digits_number-lt (whole ++ fraction) all)

-- with no place left before the first digit there is nothing
pub size_of-none : (whole fraction : List ℕ) (exponent : ℤ) → list_all is_ascii_digit (whole ++ fraction) ≡ true → (pos (length whole + 9) +ℤ exponent) <ℤ pos 0 → size_of record { whole = whole; fraction = fraction; exponent = exponent } ≡ 0
size_of-none whole fraction (pos e) all below = absurd (omega (arith, ints))
size_of-none whole fraction (negsuc e) all below =
    ap (λ r. min r (10 ^ 27)) (vanishes (digits_number (whole ++ fraction)) (length whole) (length fraction) (suc e) (digits_fit whole fraction all) (omega (arith, ints)))

-- exponents past a bound aren't told apart: where the number isn't 0 it is at the limit for each, or it is nothing for each
both_high : (n f d e : ℕ) → f + 18 ≤ d → f + 18 ≤ e → min (rounded (n * 10 ^ d * 10 ^ 9) (10 ^ (f + 0))) (10 ^ 27) ≡ min (rounded (n * 10 ^ e * 10 ^ 9) (10 ^ (f + 0))) (10 ^ 27)
both_high n f d e far further =
    elim (cases_eq n 0) [
      | inl none ↦
          let at_d : n * 10 ^ d * 10 ^ 9 ≡ 0 = rw none (omega arith) in
          let at_e : n * 10 ^ e * 10 ^ 9 ≡ 0 = rw none (omega arith) in
          ap (λ p. min (rounded p (10 ^ (f + 0))) (10 ^ 27)) (at_d ∙ sym at_e)
      | inr some ↦
          let one : 1 ≤ n = omega arith in
          min-eq_right {n = 10 ^ 27} {m = rounded (n * 10 ^ d * 10 ^ 9) (10 ^ (f + 0))} (overflows n f d one far) ∙ sym (min-eq_right {n = 10 ^ 27} {m = rounded (n * 10 ^ e * 10 ^ 9) (10 ^ (f + 0))} (overflows n f e one further))
    ]

is_low : (whole fraction : List ℕ) (e : ℕ) → list_all is_ascii_digit (whole ++ fraction) ≡ true → length whole + 10 ≤ e → size_of record { whole = whole; fraction = fraction; exponent = neg_ℤ (pos e) } ≡ 0
is_low whole fraction zero all far = absurd (omega arith)
is_low whole fraction (suc e) all far =
    ap (λ r. min r (10 ^ 27)) (vanishes (digits_number (whole ++ fraction)) (length whole) (length fraction) (suc e) (digits_fit whole fraction all) far)

bounded_high : (whole fraction : List ℕ) (e bound : ℕ) → length fraction + 18 ≤ bound → size_of record { whole = whole; fraction = fraction; exponent = pos (min e bound) } ≡ size_of record { whole = whole; fraction = fraction; exponent = pos e }
bounded_high whole fraction e bound far =
    elim (cases_lt e bound) [
      | inl below ↦ ap (λ k. size_of record { whole = whole; fraction = fraction; exponent = pos k }) (min-eq_left {n = e} {m = bound} (omega arith))
      | inr above ↦
          ap (λ k. size_of record { whole = whole; fraction = fraction; exponent = pos k }) (min-eq_right {n = bound} {m = e} above) ∙ both_high (digits_number (whole ++ fraction)) (length fraction) bound e far (omega arith)
    ]

bounded_low : (whole fraction : List ℕ) (e bound : ℕ) → list_all is_ascii_digit (whole ++ fraction) ≡ true → length whole + 10 ≤ bound → size_of record { whole = whole; fraction = fraction; exponent = neg_ℤ (pos (min (suc e) bound)) } ≡ size_of record { whole = whole; fraction = fraction; exponent = negsuc e }
bounded_low whole fraction e bound all far =
    elim (cases_lt (suc e) bound) [
      | inl below ↦ ap (λ k. size_of record { whole = whole; fraction = fraction; exponent = neg_ℤ (pos k) }) (min-eq_left {n = suc e} {m = bound} (omega arith))
      | inr above ↦
          ap (λ k. size_of record { whole = whole; fraction = fraction; exponent = neg_ℤ (pos k) }) (min-eq_right {n = bound} {m = suc e} above) ∙ is_low whole fraction bound all far ∙ sym (is_low whole fraction (suc e) all (omega arith))
    ]

pub size_of-near : (whole fraction : List ℕ) (exponent : ℤ) → list_all is_ascii_digit (whole ++ fraction) ≡ true → length whole < 2 ^ 64 → length fraction < 2 ^ 64 → size_of record { whole = whole; fraction = fraction; exponent = near exponent } ≡ size_of record { whole = whole; fraction = fraction; exponent = exponent }
size_of-near whole fraction (pos e) all short_whole short_fraction =
    bounded_high whole fraction e (10 ^ 20) (omega arith)
size_of-near whole fraction (negsuc e) all short_whole short_fraction =
    bounded_low whole fraction e (10 ^ 20) all (omega arith)

-- all digits as one number, with zeros behind them or without the last ones, in front of the cut
lengthened : (n r f d zeros : ℕ) → r + 9 ≡ f + d + zeros → rounded (n * 10 ^ r * 10 ^ 9) (10 ^ (f + d)) ≡ n * 10 ^ zeros
lengthened n r f d zeros sum =
    let q = 10 ^ (f + d) in
    let powers : 10 ^ r * 10 ^ 9 ≡ q * 10 ^ zeros = sym (pow-add 10 r 9) ∙ ap (λ k. 10 ^ k) sum ∙ pow-add 10 (f + d) zeros in
    let top : n * 10 ^ r * 10 ^ 9 ≡ q * (n * 10 ^ zeros) = omega arith ∙ ap (λ p. n * p) powers ∙ omega arith in
    let once : q ≡ q * 1 = omega arith in
    ap (λ p. rounded p q) top ∙ ap (rounded (q * (n * 10 ^ zeros))) once ∙ rounded-scaled q (n * 10 ^ zeros) 1 (power_some (f + d)) ∙ rounded-whole (n * 10 ^ zeros)

shortened : (n r f d digits : ℕ) → r + 9 + digits ≡ f + d → rounded (n * 10 ^ r * 10 ^ 9) (10 ^ (f + d)) ≡ rounded n (10 ^ digits)
shortened n r f d digits sum =
    let u = 10 ^ (r + 9) in
    let top : n * 10 ^ r * 10 ^ 9 ≡ u * n = rw (pow-add 10 r 9) (omega arith) in
    let bottom : 10 ^ (f + d) ≡ u * 10 ^ digits = ap (λ k. 10 ^ k) (sym sum) ∙ pow-add 10 (r + 9) digits in
    rw (top, bottom) (rounded-scaled u n (10 ^ digits) (power_some (r + 9)))

pub size_of-lengthened : (whole fraction : List ℕ) (exponent zeros : ℤ) → lt_z zeros (pos 0) ≡ false → pos (length fraction) +ℤ zeros ≡ pos 9 +ℤ exponent → min ((digits_number whole * 10 ^ length fraction + digits_number fraction) * 10 ^ unsigned_abs zeros) (10 ^ 27) ≡ size_of record { whole = whole; fraction = fraction; exponent = exponent }
size_of-lengthened whole fraction (pos e) (pos zeros) some sum =
    rw (both_sides whole fraction) (ap (λ r. min r (10 ^ 27)) (sym (lengthened (digits_number whole * 10 ^ length fraction + digits_number fraction) e (length fraction) 0 zeros (omega (arith, ints)))))
size_of-lengthened whole fraction (negsuc e) (pos zeros) some sum =
    rw (both_sides whole fraction) (ap (λ r. min r (10 ^ 27)) (sym (lengthened (digits_number whole * 10 ^ length fraction + digits_number fraction) 0 (length fraction) (suc e) zeros (omega (arith, ints)))))
size_of-lengthened whole fraction exponent (negsuc below) some sum = absurd (false≢true (sym some))

pub size_of-shortened : (whole fraction : List ℕ) (exponent zeros : ℤ) → lt_z zeros (pos 0) ≡ true → pos (length fraction) +ℤ zeros ≡ pos 9 +ℤ exponent → min (rounded (digits_number whole * 10 ^ length fraction + digits_number fraction) (10 ^ unsigned_abs zeros)) (10 ^ 27) ≡ size_of record { whole = whole; fraction = fraction; exponent = exponent }
size_of-shortened whole fraction exponent (pos zeros) none sum = absurd (false≢true (sym (not_below_zero zeros) ∙ none))
size_of-shortened whole fraction (pos e) (negsuc below) none sum =
    rw (both_sides whole fraction) (ap (λ r. min r (10 ^ 27)) (sym (shortened (digits_number whole * 10 ^ length fraction + digits_number fraction) e (length fraction) 0 (suc below) (omega (arith, ints)))))
size_of-shortened whole fraction (negsuc e) (negsuc below) none sum =
    rw (both_sides whole fraction) (ap (λ r. min r (10 ^ 27)) (sym (shortened (digits_number whole * 10 ^ length fraction + digits_number fraction) 0 (length fraction) (suc e) (suc below) (omega (arith, ints)))))
