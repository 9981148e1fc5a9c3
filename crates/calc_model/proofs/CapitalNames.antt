-- A name that is put in ASCII capitals is a name.
use Rattle.std.proofs.Common.{◌≡◌, ℕ, ◌+◌, ◌*◌, ◌-◌, Bool, true, false, not, ◌&&◌, cond, List, [], ◌∷◌, length, map, take, drop, refl, ap, ◌∙◌, arith}
use Rattle.std.specs.Prelude.{nat_le, ◌==◌, fold}
use Rattle.std.specs.List.{list_all, prefix_len}
use Rattle.std.specs.Char.{is_ascii_alphabetic, is_ascii_digit, to_ascii_uppercase, digit_value}
use Rattle.std.specs.Str.{is_utf8, str_to_ascii_uppercase}
use Rattle.std.specs.Str.Parse.{digits_value, digits_value_after}
use Rattle.std.proofs.lemmas.Bool.Decides.{nat_tests}
use Rattle.std.proofs.lemmas.List.{length-map, take-map, drop-map}
use Rattle.std.proofs.lemmas.Str.Ascii.{uppercase-uppercase}
use Rattle.calc_addr.specs.Places.{Place}
use Rattle.calc_addr.specs.Letters.{column_number, letter_value}
use Rattle.calc_addr.specs.Spelling.{are_digits, are_letters, both, column_len, column_of, column_part, row_of, row_part, spelled_address, undollared, up_to}
use Rattle.calc_addr.specs.declared.cell.TheConstants.{LAST_COL, LAST_ROW}
use Rattle.calc_addr.specs.declared.read.Spelled.TheVariants.{Not}
use Rattle.calc_model.specs.declared.identifier.TheConstants.{MOST_BYTES}
use Rattle.calc_model.specs.Tokens.{begins_identifier, has_identifier_bytes, has_no_small_letter, is_identifier, is_in_identifier, is_inside, is_name, is_small_letter}
use Rattle.calc_model.proofs.Areas.{both_true}
use Rattle.calc_model.proofs.CapitalText.{text_in_capitals}

-- tests of bytes that don't tell capitals from small letters
alphabetic : (c : ℕ) → is_ascii_alphabetic (to_ascii_uppercase c) ≡ is_ascii_alphabetic c
alphabetic c = grind (arith, nat_tests)

digit : (c : ℕ) → is_ascii_digit (to_ascii_uppercase c) ≡ is_ascii_digit c
digit c = grind (arith, nat_tests)

begins : (c : ℕ) → begins_identifier (to_ascii_uppercase c) ≡ begins_identifier c
begins c = grind (arith, nat_tests)

inside : (c : ℕ) → is_in_identifier (to_ascii_uppercase c) ≡ is_in_identifier c
inside c = grind (arith, nat_tests)

dollar : (c : ℕ) → (to_ascii_uppercase c == 36) ≡ (c == 36)
dollar c = grind (arith, nat_tests)

nought : (c : ℕ) → (to_ascii_uppercase c == 48) ≡ (c == 48)
nought c = grind (arith, nat_tests)

value : (c : ℕ) → digit_value (to_ascii_uppercase c) ≡ digit_value c
value c = grind (arith, nat_tests)

not_small : (c : ℕ) → not (is_small_letter (to_ascii_uppercase c)) ≡ true
not_small c = grind (arith, nat_tests)

module _ (p : ℕ → Bool) (same : (c : ℕ) → p (to_ascii_uppercase c) ≡ p c) where
  all-capitals : (text : List ℕ) → list_all p (map to_ascii_uppercase text) ≡ list_all p text
  all-capitals [] = refl
  all-capitals (c ∷ cs) = ap (λ b. b && list_all p (map to_ascii_uppercase cs)) (same c) ∙ ap (λ b. p c && b) (all-capitals cs)

  front-capitals : (text : List ℕ) → prefix_len p (map to_ascii_uppercase text) ≡ prefix_len p text
  front-capitals [] = refl
  front-capitals (c ∷ cs) =
      ap (λ b. cond b (1 + prefix_len p (map to_ascii_uppercase cs)) 0) (same c)
      ∙ ap (λ n. cond (p c) (1 + n) 0) (front-capitals cs)

-- no small letter is left
pub capitals : (text : List ℕ) → has_no_small_letter (str_to_ascii_uppercase text) ≡ true
capitals [] = refl
capitals (c ∷ cs) = ap (λ b. b && has_no_small_letter (str_to_ascii_uppercase cs)) (not_small c) ∙ capitals cs

identifier_bytes : (text : List ℕ) → has_identifier_bytes (map to_ascii_uppercase text) ≡ has_identifier_bytes text
identifier_bytes [] = refl
identifier_bytes (c ∷ cs) =
    ap (λ b. b && list_all is_in_identifier (map to_ascii_uppercase cs)) (begins c)
    ∙ ap (λ b. begins_identifier c && b) (all-capitals is_in_identifier inside cs)

-- the letters and the digits of an address
len-capitals : (text : List ℕ) → column_len (map to_ascii_uppercase text) ≡ column_len text
len-capitals [] = refl
len-capitals (c ∷ cs) =
    ap (λ b. cond b (1 + prefix_len is_ascii_alphabetic (map to_ascii_uppercase cs)) (prefix_len is_ascii_alphabetic (map to_ascii_uppercase (c ∷ cs)))) (dollar c)
    ∙ ap (λ n. cond (c == 36) (1 + n) (prefix_len is_ascii_alphabetic (map to_ascii_uppercase (c ∷ cs)))) (front-capitals is_ascii_alphabetic alphabetic cs)
    ∙ ap (λ n. cond (c == 36) (1 + prefix_len is_ascii_alphabetic cs) n) (front-capitals is_ascii_alphabetic alphabetic (c ∷ cs))

undollared-capitals : (text : List ℕ) → undollared (map to_ascii_uppercase text) ≡ map to_ascii_uppercase (undollared text)
undollared-capitals [] = refl
undollared-capitals (c ∷ cs) =
    ap (λ b. cond b (map to_ascii_uppercase cs) (map to_ascii_uppercase (c ∷ cs))) (dollar c)
    ∙ elim (c == 36) as (λ b. cond b (map to_ascii_uppercase cs) (map to_ascii_uppercase (c ∷ cs)) ≡ map to_ascii_uppercase (cond b cs (c ∷ cs))) [ true ↦ refl | false ↦ refl ]

letters-capitals : (text : List ℕ) → are_letters (map to_ascii_uppercase text) ≡ are_letters text
letters-capitals [] = refl
letters-capitals (c ∷ cs) = all-capitals is_ascii_alphabetic alphabetic (c ∷ cs)

digits-capitals : (text : List ℕ) → are_digits (map to_ascii_uppercase text) ≡ are_digits text
digits-capitals [] = refl
digits-capitals (c ∷ cs) =
    ap (λ b. not b && list_all is_ascii_digit (map to_ascii_uppercase (c ∷ cs))) (nought c)
    ∙ ap (λ b. not (c == 48) && b) (all-capitals is_ascii_digit digit (c ∷ cs))

number-capitals : (n : ℕ) (text : List ℕ) → fold (λ n c. n * 26 + letter_value c) n (map to_ascii_uppercase text) ≡ fold (λ n c. n * 26 + letter_value c) n text
number-capitals n [] = refl
number-capitals n (c ∷ cs) =
    ap (λ d. fold (λ n c. n * 26 + letter_value c) (n * 26 + (d - 64)) (map to_ascii_uppercase cs)) (uppercase-uppercase c)
    ∙ number-capitals (n * 26 + letter_value c) cs

value-capitals : (n : ℕ) (text : List ℕ) → digits_value_after 10 n (map to_ascii_uppercase text) ≡ digits_value_after 10 n text
value-capitals n [] = refl
value-capitals n (c ∷ cs) =
    ap (λ d. digits_value_after 10 (n * 10 + d) (map to_ascii_uppercase cs)) (value c)
    ∙ value-capitals (n * 10 + digit_value c) cs

column-capitals : (text : List ℕ) → column_of (map to_ascii_uppercase text) ≡ column_of text
column-capitals text =
    ap (λ b. cond b (up_to LAST_COL (column_number (map to_ascii_uppercase text))) Not) (letters-capitals text)
    ∙ ap (λ n. cond (are_letters text) (up_to LAST_COL n) Not) (number-capitals 0 text)

row-capitals : (text : List ℕ) → row_of (map to_ascii_uppercase text) ≡ row_of text
row-capitals text =
    ap (λ b. cond b (up_to LAST_ROW (digits_value 10 (map to_ascii_uppercase text))) Not) (digits-capitals text)
    ∙ ap (λ n. cond (are_digits text) (up_to LAST_ROW n) Not) (value-capitals 0 text)

column_part-capitals : (text : List ℕ) → column_part (map to_ascii_uppercase text) ≡ map to_ascii_uppercase (column_part text)
column_part-capitals text = ap (λ n. take n (map to_ascii_uppercase text)) (len-capitals text) ∙ take-map to_ascii_uppercase (column_len text) text

row_part-capitals : (text : List ℕ) → row_part (map to_ascii_uppercase text) ≡ map to_ascii_uppercase (row_part text)
row_part-capitals text = ap (λ n. drop n (map to_ascii_uppercase text)) (len-capitals text) ∙ drop-map to_ascii_uppercase (column_len text) text

place : ℕ → ℕ → Place
place col row = record { sheet = 0; col = col; row = row }

address-capitals : (text : List ℕ) → spelled_address (map to_ascii_uppercase text) ≡ spelled_address text
unfolding place
address-capitals text =
    let col = ap (λ t. column_of (undollared t)) (column_part-capitals text) ∙ ap column_of (undollared-capitals (column_part text)) ∙ column-capitals (undollared (column_part text)) in
    let row = ap (λ t. row_of (undollared t)) (row_part-capitals text) ∙ ap row_of (undollared-capitals (row_part text)) ∙ row-capitals (undollared (row_part text)) in
    ap (λ c. both place c (row_of (undollared (row_part (map to_ascii_uppercase text))))) col
    ∙ ap (λ r. both place (column_of (undollared (column_part text))) r) row

all_three : (a b c : Bool) → a ≡ true → b ≡ true → c ≡ true → (a && b && c) ≡ true
all_three a b c p q r = ap (λ x. x && b && c) p ∙ ap (λ x. x && c) q ∙ r

pub name_in_capitals : (text : List ℕ) → is_name text ≡ true → is_name (str_to_ascii_uppercase text) ≡ true
name_in_capitals text is =
    let parts = both_true (is_identifier text) (not (is_inside (spelled_address text))) is in
    let bytes = both_true (has_identifier_bytes text && nat_le (length text) MOST_BYTES) (is_utf8 text) parts.0 in
    let short = both_true (has_identifier_bytes text) (nat_le (length text) MOST_BYTES) bytes.0 in
    let identifier : is_identifier (str_to_ascii_uppercase text) ≡ true = all_three _ _ _
    (identifier_bytes text ∙ short.0)
    (ap (λ n. nat_le n MOST_BYTES) (length-map text to_ascii_uppercase) ∙ short.1)
    (text_in_capitals text bytes.1)
    in
    ap (λ b. b && not (is_inside (spelled_address (map to_ascii_uppercase text)))) identifier
    ∙ ap (λ a. not (is_inside a)) (address-capitals text)
    ∙ parts.1
