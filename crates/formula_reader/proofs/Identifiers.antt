-- An identifier is a text, and stays an identifier in capitals.
use Rattle.std.proofs.Common.{◌≡◌, ◌&&◌, not, nat_le, ℕ, true, List, length, ◌≤◌, ◌+◌, ◌/◌, cond, nat_lt, ⊎_elim, [], ◌∷◌, ◌++◌, map, refl, sym, ap, ◌∙◌, arith}
use Rattle.std.specs.Str.{IsUtf8, is_utf8}
use Rattle.std.proofs.lemmas.Bool.{and_parts, and_from, cases_lt, cond_both, ltb-true}
use Rattle.std.proofs.lemmas.Str.{IsUtf8-from_is_utf8, is_utf8-from_IsUtf8}
use Rattle.calc_addr.specs.Spelling.{spelled_address}
use Rattle.calc_model.specs.Tokens.{has_identifier_bytes, is_identifier, is_inside, is_name, begins_identifier, has_no_small_letter, is_in_identifier, is_small_letter}
use Rattle.std.specs.Char.{to_ascii_uppercase}
use Rattle.std.specs.List.{list_all}
use Rattle.std.proofs.lemmas.Bool.Decides.{nat_tests}
use Rattle.std.proofs.lemmas.Str.Ascii.{encode_ascii, uppercase_ascii, uppercase_is}
use lib.Utf8.{encode, encodes, low_scalar, next, scalar, scalars}
use Rattle.calc_model.specs.Grammar.{in_capitals}

pub identifier_IsUtf8 : (word : List ℕ) → is_identifier word ≡ true → IsUtf8 word
identifier_IsUtf8 word h =
    IsUtf8-from_is_utf8 word (and_parts (has_identifier_bytes word && nat_le (length word) 255) (is_utf8 word) h).1

pub name_is_identifier : (word : List ℕ) → is_name word ≡ true → is_identifier word ≡ true
name_is_identifier word h = (and_parts (is_identifier word) (not (is_inside (spelled_address word))) h).0

-- the bytes of a character past ASCII stay
stays : (c : ℕ) → 128 ≤ c → to_ascii_uppercase c ≡ c
stays c h = (uppercase_is c).2 (omega arith)

high : (c : ℕ) → 128 ≤ c → map to_ascii_uppercase (encode c) ≡ encode c
unfolding encode
high c h =
    let two : List ℕ = (192 + c / 64) ∷ next c ∷ [] in
    let three : List ℕ = (224 + c / 4096) ∷ next (c / 64) ∷ next c ∷ [] in
    let four : List ℕ = (240 + c / 262144) ∷ next (c / 4096) ∷ next (c / 64) ∷ next c ∷ [] in
    let Stay : List ℕ → Type 0 = λ bytes. map to_ascii_uppercase bytes ≡ bytes in
    cond_both (nat_lt c 128) (c ∷ []) (cond (nat_lt c 2048) two (cond (nat_lt c 65536) three four)) Stay
    (λ low. absurd (omega (arith, ltb-true c 128 low)))
    (λ _. cond_both (nat_lt c 2048) two (cond (nat_lt c 65536) three four) Stay
    (λ _ i. stays (192 + c / 64) (omega arith) i ∷ stays (next c) (omega arith) i ∷ [])
    (λ _. cond_both (nat_lt c 65536) three four Stay
    (λ _ i. stays (224 + c / 4096) (omega arith) i ∷ stays (next (c / 64)) (omega arith) i ∷ stays (next c) (omega arith) i ∷ [])
    (λ _ i. stays (240 + c / 262144) (omega arith) i ∷ stays (next (c / 4096)) (omega arith) i ∷ stays (next (c / 64)) (omega arith) i ∷ stays (next c) (omega arith) i ∷ [])))

letter : (c : ℕ) → map to_ascii_uppercase (encode c) ≡ encode (to_ascii_uppercase c)
letter c = ⊎_elim
    (λ low. ap (map to_ascii_uppercase) (encode_ascii c low) ∙ sym (encode_ascii (to_ascii_uppercase c) (uppercase_ascii c low)))
    (λ past. high c past ∙ ap encode (sym (stays c past)))
    (cases_lt c 128)

scalar_stays : (c : ℕ) → scalar c ≡ true → scalar (to_ascii_uppercase c) ≡ true
scalar_stays c h = ⊎_elim
    (λ low. low_scalar (to_ascii_uppercase c) (omega (arith, uppercase_ascii c low)))
    (λ past. ap scalar (stays c past) ∙ h)
    (cases_lt c 128)

map-append : (xs ys : List ℕ) → map to_ascii_uppercase (xs ++ ys) ≡ map to_ascii_uppercase xs ++ map to_ascii_uppercase ys
map-append [] ys = refl
map-append (x ∷ xs) ys = ap (λ l. to_ascii_uppercase x ∷ l) (map-append xs ys)

letters : (cs : List ℕ) → scalars cs ≡ true → (scalars (map to_ascii_uppercase cs) ≡ true) × (encodes (map to_ascii_uppercase cs) ≡ map to_ascii_uppercase (encodes cs))
letters [] h = (refl, refl)
letters (c ∷ cs) h =
    let are = and_parts (scalar c) (scalars cs) h in
    let rest = letters cs are.1 in (
      and_from (scalar (to_ascii_uppercase c)) (scalars (map to_ascii_uppercase cs)) (scalar_stays c are.0) rest.0,
      (λ i. sym (letter c) i ++ rest.1 i) ∙ sym (map-append (encode c) (encodes cs)),
    )

-- a text in capitals is a text
raised : (text : List ℕ) → IsUtf8 text → IsUtf8 (map to_ascii_uppercase text)
raised text u =
    let on = letters u.0 u.1.0 in
    (map to_ascii_uppercase u.0, (on.0, on.1 ∙ ap (map to_ascii_uppercase) u.1.1))

upper_begins : (byte : ℕ) → begins_identifier byte ≡ true → begins_identifier (to_ascii_uppercase byte) ≡ true
upper_begins byte h = grind (arith, nat_tests)

upper_in : (byte : ℕ) → is_in_identifier byte ≡ true → is_in_identifier (to_ascii_uppercase byte) ≡ true
upper_in byte h = grind (arith, nat_tests)

upper_not_small : (byte : ℕ) → not (is_small_letter (to_ascii_uppercase byte)) ≡ true
upper_not_small byte = grind (arith, nat_tests)

all_in : (text : List ℕ) → list_all is_in_identifier text ≡ true → list_all is_in_identifier (in_capitals text) ≡ true
all_in [] h = refl
all_in (byte ∷ text) h =
    let parts = and_parts (is_in_identifier byte) (list_all is_in_identifier text) h in
    and_from (is_in_identifier (to_ascii_uppercase byte)) (list_all is_in_identifier (in_capitals text)) (upper_in byte parts.0) (all_in text parts.1)

identifier_in : (text : List ℕ) → has_identifier_bytes text ≡ true → has_identifier_bytes (in_capitals text) ≡ true
identifier_in [] h = h
identifier_in (byte ∷ text) h =
    let parts = and_parts (begins_identifier byte) (list_all is_in_identifier text) h in
    and_from (begins_identifier (to_ascii_uppercase byte)) (list_all is_in_identifier (in_capitals text)) (upper_begins byte parts.0) (all_in text parts.1)

pub no_small : (text : List ℕ) → has_no_small_letter (in_capitals text) ≡ true
no_small [] = refl
no_small (byte ∷ text) = and_from (not (is_small_letter (to_ascii_uppercase byte))) (has_no_small_letter (in_capitals text)) (upper_not_small byte) (no_small text)

same_length : (text : List ℕ) → length (in_capitals text) ≡ length text
same_length [] = refl
same_length (byte ∷ text) = omega (arith, same_length text)

pub capitals_identifier : (text : List ℕ) → is_identifier text ≡ true → is_identifier (in_capitals text) ≡ true
capitals_identifier text h =
    let parts = and_parts (has_identifier_bytes text && nat_le (length text) 255) (is_utf8 text) h in
    let bytes = and_parts (has_identifier_bytes text) (nat_le (length text) 255) parts.0 in
    and_from (has_identifier_bytes (in_capitals text) && nat_le (length (in_capitals text)) 255) (is_utf8 (in_capitals text))
    (and_from (has_identifier_bytes (in_capitals text)) (nat_le (length (in_capitals text)) 255) (identifier_in text bytes.0) (ap (λ n. nat_le n 255) (same_length text) ∙ bytes.1))
    (is_utf8-from_IsUtf8 (in_capitals text) (raised text (IsUtf8-from_is_utf8 text parts.1)))
