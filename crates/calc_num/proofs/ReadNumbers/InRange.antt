-- What is given as a number is in range.
use Rattle.std.proofs.Common.{◌≡◌, ℕ, Bool, ℤ, List, Option, Some, None, if◌then◌else◌, inl, inr, ◌∙◌, sym, subst}
use Rattle.std.proofs.lemmas.Bool.{cases_Bool, cond-true, cond-false}
use Rattle.calc_num.specs.Decimals.{is_raw, IsRaw}
use Rattle.calc_num.specs.Spelling.{Unsigned, nearest_raw, reading_of, is_negative, behind_sign, unsigned, reading}
use Rattle.calc_num.specs.declared.parse.Reading.TheVariants.{Number, TooLarge}

in_range : (raw z : ℤ) → (if is_raw raw then Number raw else TooLarge) ≡ Number z → IsRaw z
in_range raw z is =
    elim (cases_Bool (is_raw raw)) [
      | inl inside ↦
          let given = sym (cond-true (is_raw raw) (Number raw) TooLarge inside) ∙ is in
          let same : raw ≡ z = cc in
          subst IsRaw same inside
      | inr outside ↦ let refused = sym (cond-false (is_raw raw) (Number raw) TooLarge outside) ∙ is in cc
    ]

of_parts : (negative : Bool) (parts : Option Unsigned) (z : ℤ) → reading_of negative parts ≡ Number z → IsRaw z
of_parts negative None z is = cc
of_parts negative (Some n) z is = in_range (nearest_raw negative n) z is

-- and so is a number that is read
pub reading-ok : (text : List ℕ) (z : ℤ) → reading text ≡ Number z → IsRaw z
reading-ok text z is = of_parts (is_negative text) (unsigned (behind_sign text)) z is
