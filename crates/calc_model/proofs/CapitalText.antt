-- A text that is put in ASCII capitals is a text: the bytes of a character past ASCII stay.
use Rattle.std.proofs.Common.{◌≡◌, ℕ, ◌≤◌, true, ◌&&◌, List, [], ◌∷◌, ◌++◌, map, refl, sym, ap, ◌∙◌, inl, inr, arith}
use lib.Utf8.{encode, encodes, scalar, scalar_cases, scalars, low_scalar}
use Rattle.std.specs.Char.{to_ascii_uppercase}
use Rattle.std.specs.Str.{IsUtf8, is_utf8, str_to_ascii_uppercase}
use Rattle.std.proofs.str.Laws.{Shape, of1, of2, of3, of4, one, shape}
use Rattle.std.proofs.lemmas.Bool.{cases_lt}
use Rattle.std.proofs.lemmas.List.{map-append}
use Rattle.std.proofs.lemmas.Str.{IsUtf8-from_is_utf8, is_utf8-from_IsUtf8}
use Rattle.std.proofs.lemmas.Str.Ascii.{uppercase_ascii, uppercase_is}
use Rattle.calc_model.proofs.Areas.{both_true}

stays : (c : ℕ) → 128 ≤ c → to_ascii_uppercase c ≡ c
stays c high = (uppercase_is c).2 (omega arith)

past_ascii : (c : ℕ) → 128 ≤ c → Shape c → map to_ascii_uppercase (encode c) ≡ encode c
past_ascii c high (of1 low e) = absurd (omega arith)
past_ascii c high (of2 a b from to follows sum e) =
    rw (e, stays a (omega arith), stays b (omega arith))
past_ascii c high (of3 a b d from to follows then sum e) =
    rw (e, stays a (omega arith), stays b (omega arith), stays d (omega arith))
past_ascii c high (of4 a b d k from to follows then last sum e) =
    rw (e, stays a (omega arith), stays b (omega arith), stays d (omega arith), stays k (omega arith))

-- one character
of_char : (c : ℕ) → scalar c ≡ true → (scalar (to_ascii_uppercase c) ≡ true) × (map to_ascii_uppercase (encode c) ≡ encode (to_ascii_uppercase c))
of_char c is = elim (cases_lt c 128) [
  | inl low ↦
      let small = uppercase_ascii c low in
      (low_scalar (to_ascii_uppercase c) (omega arith), ap (map to_ascii_uppercase) (one c low) ∙ sym (one (to_ascii_uppercase c) small))
  | inr high ↦
      (ap scalar (stays c high) ∙ is, past_ascii c high (shape c (scalar_cases c is)) ∙ ap encode (sym (stays c high)))
]

of_chars : (cs : List ℕ) → scalars cs ≡ true → (scalars (map to_ascii_uppercase cs) ≡ true) × (map to_ascii_uppercase (encodes cs) ≡ encodes (map to_ascii_uppercase cs))
of_chars [] are = (refl, refl)
of_chars (c ∷ cs) are =
    let parts = both_true (scalar c) (scalars cs) are in
    let first = of_char c parts.0 in
    let rest = of_chars cs parts.1 in (
      ap (λ b. b && scalars (map to_ascii_uppercase cs)) first.0 ∙ rest.0,
      map-append to_ascii_uppercase (encode c) (encodes cs)
          ∙ ap (λ bs. bs ++ map to_ascii_uppercase (encodes cs)) first.1
          ∙ ap (λ bs. encode (to_ascii_uppercase c) ++ bs) rest.1,
    )

pub text_in_capitals : (bs : List ℕ) → is_utf8 bs ≡ true → is_utf8 (str_to_ascii_uppercase bs) ≡ true
text_in_capitals bs is =
    let u : IsUtf8 bs = IsUtf8-from_is_utf8 bs is in
    let on = of_chars u.0 u.1.0 in
    is_utf8-from_IsUtf8 (str_to_ascii_uppercase bs) (map to_ascii_uppercase u.0, (on.0, sym on.1 ∙ ap (map to_ascii_uppercase) u.1.1))
