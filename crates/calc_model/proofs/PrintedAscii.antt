-- The printed text of a number is ASCII.
use Rattle.std.proofs.Common.{ℕ, ℤ, zero, suc, pos, negsuc, ◌+◌, ◌/◌, ◌%◌, ◌^◌, ◌<◌, ◌==◌, true, false, if◌then◌else◌, [], ◌∷◌, arith, rules}
use Rattle.std.specs.Fmt.{decimal}
use Rattle.std.specs.Str.{IsAscii, IsUtf8}
use Rattle.std.proofs.lemmas.Bool.{ltb-true}
use Rattle.std.proofs.lemmas.Fmt.{IsAscii-decimal_wide}
use Rattle.std.proofs.lemmas.Str.{IsAscii-append, IsAscii-take, IsUtf8-from_ascii}
use Rattle.std.proofs.lemmas.Str.Ascii.{IsAscii-from_all, IsAscii-nil}
use Rattle.calc_num.specs.Decimals.{IsRaw}
use Rattle.calc_num.specs.Numbers.{last_digits, printed, printed_fraction, printed_size, without_end_zeros}

ascii-one : (byte : ℕ) → byte < 128 → IsAscii (byte ∷ [])
ascii-one byte small = IsAscii-from_all (byte ∷ []) (search rules)

ascii-last_digits : (count n : ℕ) → IsAscii (last_digits count n)
unfolding last_digits
ascii-last_digits zero n = IsAscii-nil
ascii-last_digits (suc count) n =
    IsAscii-append (last_digits count (n / 10)) ((48 + n % 10) ∷ []) (ascii-last_digits count (n / 10)) (ascii-one (48 + n % 10) (omega arith))

ascii-fraction : (billionths : ℕ) → IsAscii (printed_fraction billionths)
ascii-fraction billionths =
    let digits = last_digits 9 billionths in
    elim (billionths == 0) as (λ b. IsAscii (if b then [] else 46 ∷ without_end_zeros digits)) [
      | true ↦ IsAscii-nil
      | false ↦ IsAscii-append (46 ∷ []) (without_end_zeros digits) (ascii-one 46 (omega arith)) (IsAscii-take digits _ (ascii-last_digits 9 billionths))
    ]

ascii-size : (size : ℕ) → size < 10 ^ 27 → IsAscii (printed_size size)
ascii-size size small = IsAscii-append (decimal (size / 10 ^ 9)) (printed_fraction (size % 10 ^ 9)) (IsAscii-decimal_wide (size / 10 ^ 9) (omega arith)) (ascii-fraction (size % 10 ^ 9))

ascii-printed : (n : ℤ) → IsRaw n → IsAscii (printed n)
ascii-printed (pos size) raw = ascii-size size (ltb-true _ _ raw)
ascii-printed (negsuc below) raw = IsAscii-append (45 ∷ []) (printed_size (suc below)) (ascii-one 45 (omega arith)) (ascii-size (suc below) (ltb-true _ _ raw))

pub utf8-printed : (n : ℤ) → IsRaw n → IsUtf8 (printed n)
utf8-printed n raw = IsUtf8-from_ascii (printed n) (ascii-printed n raw)

pub ruleset printed_text = (utf8-printed)
