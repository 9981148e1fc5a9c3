-- The digits of a number behind a leading 1.
use Rattle.std.proofs.Common.{◌≡◌, ℕ, zero, suc, ◌+◌, ◌-◌, ◌*◌, ◌/◌, ◌%◌, ◌^◌, ◌<◌, ◌≤◌, eqb, List, ◌∷◌, ◌++◌, length, take, drop, set, slice_range, ℤ, pos, negsuc, nat_abs, true, false, refl, ap, subst, ◌∙◌, sym, arith, length-append, append-nil}
use Rattle.std.specs.Fmt.{decimal}
use Rattle.std.specs.List.{suffix_len}
use Rattle.std.proofs.Math.Nat.{pow-suc, one-le-pow}
use Rattle.std.proofs.Math.Seq.{take-append-add}
use Rattle.std.proofs.lemmas.Bool.{ne_eqb, le-leb, false≢true}
use Rattle.std.proofs.lemmas.Fmt.{decimal_digit, decimal_step_wide}
use Rattle.std.proofs.lemmas.List.{drop-set, drop-set-lt, drop-drop, drop_all}
use Rattle.calc_num.specs.Numbers.{last_digits, printed_fraction, printed_size, printed}
use lib.Signed.{le_z}

pub length-last_digits : (count n : ℕ) → length (last_digits count n) ≡ count
unfolding last_digits
length-last_digits zero n = refl
length-last_digits (suc count) n =
    length-append (last_digits count (n / 10)) _ ∙ omega (arith, length-last_digits count (n / 10))

-- a power of ten in front puts a 1 in front
pub decimal-power_front : (count n : ℕ) → n < 10 ^ count → 10 ^ count + n < 10 ^ 64 → decimal (10 ^ count + n) ≡ 49 ∷ last_digits count n
unfolding last_digits
decimal-power_front zero n small wide = let e : n ≡ 0 = omega arith in rw e (decimal_digit 1 (omega arith))
decimal-power_front (suc count) n small wide =
    let p : 10 ^ suc count ≡ 10 * 10 ^ count = omega (arith, pow-suc 10 count) in
    let some : 1 ≤ 10 ^ count = one-le-pow count 10 (omega arith) in
    let front : (10 ^ suc count + n) / 10 ≡ 10 ^ count + n / 10 = omega arith in
    let last : (10 ^ suc count + n) % 10 ≡ n % 10 = omega arith in
    rw (decimal_step_wide (10 ^ suc count + n) (omega arith) wide, front, last, decimal-power_front count (n / 10) (omega arith) (omega arith)) refl

-- the point over that 1, and the digits behind it without the zeros at their end
pub fraction_placed : (old new : List ℕ) (start kept n : ℕ) → length old ≡ 29 → length new ≡ 29 → n < 10 ^ 9 → (n ≡ 0 → ⊥) → start + length (decimal (10 ^ 9 + n)) ≡ 29 → drop start new ≡ decimal (10 ^ 9 + n) ++ drop 29 old → kept + suffix_len (λ digit. eqb digit 48) (drop 20 (set new 19 46)) ≡ length (drop 20 (set new 19 46)) → slice_range (set new 19 46) 19 (20 + kept) ≡ printed_fraction n
fraction_placed old new start kept n long_old long_new small some starts written trimmed =
    let digits = last_digits 9 n in
    let front : decimal (10 ^ 9 + n) ≡ 49 ∷ digits = decimal-power_front 9 n small (omega arith) in
    let nine : length digits ≡ 9 = length-last_digits 9 n in
    let ten : length (decimal (10 ^ 9 + n)) ≡ 10 = ap length front ∙ omega arith in
    let at : start ≡ 19 = omega arith in
    let whole : drop 19 new ≡ 49 ∷ digits =
    subst (λ s. drop s new ≡ 49 ∷ digits) at (written ∙ rw (front, drop_all 29 old (omega arith)) (append-nil (49 ∷ digits))) in
    let behind : drop 20 new ≡ digits = sym (drop-drop 1 19 new) ∙ ap (drop 1) whole in
    let point : drop 19 (set new 19 46) ≡ 46 ∷ digits = drop-set new 19 46 (omega arith) ∙ ap (λ ds. 46 ∷ ds) behind in
    let after : drop 20 (set new 19 46) ≡ digits = drop-set-lt 20 new 19 46 (omega arith) ∙ behind in
    let count : kept + suffix_len (λ digit. eqb digit 48) digits ≡ length digits =
    subst (λ ds. kept + suffix_len (λ digit. eqb digit 48) ds ≡ length ds) after trimmed in
    let long : 20 + kept - 19 ≡ suc kept = omega arith in
    let cut : kept ≡ length digits - suffix_len (λ digit. eqb digit 48) digits = omega arith in
    rw (long, point, ne_eqb n 0 some) (ap (λ k. 46 ∷ take k digits) cut)

-- the whole part before a fraction
pub whole_placed : (old new : List ℕ) (start end whole : ℕ) → length old ≡ 29 → 19 ≤ end → start + length (decimal whole) ≡ 19 → drop start new ≡ decimal whole ++ drop 19 old → slice_range new start end ≡ decimal whole ++ slice_range old 19 end
whole_placed old new start end whole long past starts written =
    let count : end - start ≡ length (decimal whole) + (end - 19) = omega arith in
    rw (count, written) (take-append-add (decimal whole) (drop 19 old) (end - 19))

-- a minus before a text
pub minus_placed : (bytes : List ℕ) (start end : ℕ) → 1 ≤ start → start ≤ length bytes → start ≤ end → slice_range (set bytes (start - 1) 45) (start - 1) end ≡ 45 ∷ slice_range bytes start end
minus_placed bytes start end some within ordered =
    let next : start - 1 + 1 ≡ start = omega arith in
    let count : end - (start - 1) ≡ suc (end - start) = omega arith in
    rw (count, drop-set bytes (start - 1) 45 (omega arith), next) refl

-- a negative number prints as a minus and its size
pub printed-negative : (z : ℤ) (size : ℕ) → size ≡ nat_abs z → le_z (pos 0) z ≡ false → printed z ≡ 45 ∷ printed_size size
printed-negative (pos n) size is_size below = absurd (false≢true (sym below ∙ le-leb 0 n (omega arith)))
printed-negative (negsuc n) size is_size below = ap (λ s. 45 ∷ printed_size s) (sym is_size)

-- any other number prints as its size
pub printed-positive : (z : ℤ) (size : ℕ) → size ≡ nat_abs z → le_z (pos 0) z ≡ true → printed z ≡ printed_size size
printed-positive (pos n) size is_size above = ap printed_size (sym is_size)
printed-positive (negsuc n) size is_size above = absurd (false≢true above)
