-- What an address is read as: letters, then digits, and a sheet's word in front.
use Rattle.std.proofs.Common.{◌≡◌, ℕ, zero, suc, ◌+◌, ◌-◌, ◌*◌, ◌/◌, ◌%◌, ◌^◌, ◌<◌, ◌≤◌, ◌≢◌, Bool, true, false, not, ◌&&◌, List, [], ◌∷◌, ◌++◌, length, get_or, take, drop, codes, decimal, refl, sym, ap, ◌∙◌, arith, rules}
use Rattle.std.specs.Prelude.{nat_le, ◌==◌}
use Rattle.std.specs.List.{list_all, list_any, prefix_len, before_first, after_first}
use Rattle.std.specs.Char.{is_ascii_alphabetic, is_ascii_digit}
use Rattle.std.specs.Str.Parse.{digits_value}
use Rattle.std.proofs.lemmas.Bool.{and_parts, and_from, or_from, or_parts, or_left, or_right, not_from_true, cond-true, cond-false, cond_both, ne_eqb, eqb-true, eqb-false, not_from_false, le-leb}
use Rattle.std.proofs.lemmas.Bool.Decides.{nat_tests}
use Rattle.std.proofs.lemmas.Fmt.{decimal_is_IsNumeral, digits_decimal, first_decimal, decimal_nonempty}
use Rattle.std.proofs.lemmas.List.{append_assoc, take_at, drop_at, drop-drop, length-append}
use Rattle.std.proofs.lemmas.List.Folds.{list_all-append, list_any-append}
use Rattle.std.proofs.lemmas.List.Sums.{fold_push}
use Rattle.std.proofs.lemmas.Str.Parse.{IsNumeralModel, numerals_by_value}
use Rattle.calc_addr.specs.Bracketed.{with_dollar}
use Rattle.calc_addr.specs.Places.{Place, IsPlace}
use Rattle.calc_addr.specs.Letters.{last_letters, column_letters, letter_value, column_number}
use Rattle.calc_addr.specs.Addresses.{address, sheet_word}
use Rattle.calc_addr.specs.Spelling.{are_digits, are_digits_or_zero, are_letters, both, column_len, column_of, column_part, row_part, from_zero, is_point, row_of, sheet_of, sheet_part, after_sheet, spelled_address, spelled_cell, undollared, up_to, place_on}
use Rattle.calc_addr.specs.declared.read.Spelled.{Spelled}
use Rattle.calc_addr.specs.declared.read.Spelled.TheVariants.{Is}
use Rattle.calc_addr.proofs.Spelling.Columns.{last_column}

-- the digits of a number
pub digits_test : IsNumeralModel (λ ds. list_all is_ascii_digit ds ≡ true) (digits_value 10)
digits_test = numerals_by_value _ (search rules)

are_digits-from : (ds : List ℕ) → 0 < length ds → 48 < get_or ds 0 0 → list_all is_ascii_digit ds ≡ true → are_digits ds ≡ true
are_digits-from [] some high all = absurd (omega arith)
are_digits-from (c ∷ cs) some high all = and_from (not (c == 48)) _ (not_from_false (c == 48) (ne_eqb c 48 (λ e. omega arith))) all

pub are_digits-decimal : (n : ℕ) → 1 ≤ n → n < 2 ^ 64 → are_digits (decimal n) ≡ true
are_digits-decimal n low high =
    are_digits-from (decimal n) (decimal_nonempty n high) (first_decimal n low high) (digits_decimal digits_test n high)

-- the letters of a column
letter : (m : ℕ) → m < 26 → is_ascii_alphabetic (65 + m) ≡ true
letter m h = grind (arith, nat_tests)

letter_value-letter : (m : ℕ) → m < 26 → letter_value (65 + m) ≡ m + 1
letter_value-letter m h = grind (arith, nat_tests)

letters_all : (k n : ℕ) → list_all is_ascii_alphabetic (last_letters k n) ≡ true
letters_all zero n = refl
letters_all (suc k) n =
    let front = last_letters k ((n - 1) / 26) in
    let last = 65 + (n - 1) % 26 in
    cond_both (n == 0) [] (front ++ last ∷ []) (λ x. list_all is_ascii_alphabetic x ≡ true) (λ _. refl)
    (λ _. list_all-append is_ascii_alphabetic front (last ∷ [])
    ∙ and_from _ _ (letters_all k ((n - 1) / 26)) (and_from _ true (letter ((n - 1) % 26) (omega arith)) refl))

letters_number : (k n : ℕ) → n ≤ last_column k → column_number (last_letters k n) ≡ n
letters_number zero n h = omega arith
letters_number (suc k) n h =
    let front = last_letters k ((n - 1) / 26) in
    let last = 65 + (n - 1) % 26 in
    cond_both (n == 0) [] (front ++ last ∷ []) (λ x. column_number x ≡ n) (λ e. sym (eqb-true n 0 e))
    (λ e. let above : n ≢ 0 = eqb-false n 0 e in
    fold_push (λ m c. m * 26 + letter_value c) 0 front last
    ∙ omega (arith, letters_number k ((n - 1) / 26) (omega arith), letter_value-letter ((n - 1) % 26) (omega arith)))

are_letters-from : (ls : List ℕ) → 0 < length ls → list_all is_ascii_alphabetic ls ≡ true → are_letters ls ≡ true
are_letters-from [] some all = absurd (omega arith)
are_letters-from (c ∷ cs) some all = all

letters_some : (k n : ℕ) → 1 ≤ n → 0 < length (last_letters (suc k) n)
letters_some k n low =
    let front = last_letters k ((n - 1) / 26) in
    let last = 65 + (n - 1) % 26 in
    cond_both (n == 0) [] (front ++ last ∷ []) (λ x. 0 < length x) (λ e. absurd (omega (arith, eqb-true n 0 e)))
    (λ _. omega (arith, length-append front (last ∷ [])))

pub are_letters-column_letters : (n : ℕ) → 1 ≤ n → are_letters (column_letters n) ≡ true
unfolding column_letters
are_letters-column_letters n low = are_letters-from _ (letters_some 2 n low) (letters_all 3 n)

pub column_number-column_letters : (n : ℕ) → n ≤ 1024 → column_number (column_letters n) ≡ n
unfolding column_letters
column_number-column_letters n high = letters_number 3 n (omega arith)

-- letters, and digits after them
pub letter_no_dollar : (c : ℕ) → is_ascii_alphabetic c ≡ true → c == 36 ≡ false
letter_no_dollar c h = grind (arith, nat_tests)

pub digit_no_dollar : (c : ℕ) → is_ascii_digit c ≡ true → c == 36 ≡ false
digit_no_dollar c h = grind (arith, nat_tests)

pub digit_no_letter : (c : ℕ) → is_ascii_digit c ≡ true → is_ascii_alphabetic c ≡ false
digit_no_letter c h = grind (arith, nat_tests)

letter_no_point : (c : ℕ) → is_ascii_alphabetic c ≡ true → is_point c ≡ false
letter_no_point c h = grind (arith, nat_tests)

pub digit_no_point : (c : ℕ) → is_ascii_digit c ≡ true → is_point c ≡ false
digit_no_point c h = grind (arith, nat_tests)

pub undollared-letters : (ls : List ℕ) → are_letters ls ≡ true → undollared ls ≡ ls
undollared-letters [] h = cc
undollared-letters (c ∷ cs) h = cond-false (c == 36) _ _ (letter_no_dollar c (and_parts (is_ascii_alphabetic c) _ h).0)

pub undollared-digits : (ds : List ℕ) → are_digits ds ≡ true → undollared ds ≡ ds
undollared-digits [] h = cc
undollared-digits (c ∷ cs) h =
    cond-false (c == 36) _ _ (digit_no_dollar c (and_parts (is_ascii_digit c) _ (and_parts (not (c == 48)) _ h).1).0)

pub list_all-are_letters : (ls : List ℕ) → are_letters ls ≡ true → list_all is_ascii_alphabetic ls ≡ true
list_all-are_letters [] h = cc
list_all-are_letters (c ∷ cs) h = h

pub list_all-are_digits : (ds : List ℕ) → are_digits ds ≡ true → list_all is_ascii_digit ds ≡ true
list_all-are_digits [] h = cc
list_all-are_digits (c ∷ cs) h = (and_parts (not (c == 48)) _ h).1

pub no_letter_first : (ds : List ℕ) → are_digits ds ≡ true → prefix_len is_ascii_alphabetic ds ≡ 0
no_letter_first [] h = cc
no_letter_first (c ∷ cs) h =
    cond-false (is_ascii_alphabetic c) _ _ (digit_no_letter c (and_parts (is_ascii_digit c) _ (list_all-are_digits (c ∷ cs) h)).0)

pub prefix_len-stops : (p : ℕ → Bool) (xs ys : List ℕ) → list_all p xs ≡ true → prefix_len p ys ≡ 0 → prefix_len p (xs ++ ys) ≡ length xs
prefix_len-stops p [] ys h k = k
prefix_len-stops p (x ∷ xs) ys h k =
    let parts = and_parts (p x) (list_all p xs) h in
    cond-true (p x) _ _ parts.0 ∙ (omega (arith, prefix_len-stops p xs ys parts.1 k))

pub undollared-with_dollar : (marked : Bool) (text : List ℕ) → undollared text ≡ text → undollared (with_dollar marked text) ≡ text
undollared-with_dollar true text h = refl
undollared-with_dollar false text h = h

column_len-letters : (ls rest : List ℕ) → are_letters ls ≡ true → column_len (ls ++ rest) ≡ prefix_len is_ascii_alphabetic (ls ++ rest)
column_len-letters [] rest h = cc
column_len-letters (c ∷ cs) rest h = cond-false (c == 36) _ _ (letter_no_dollar c (and_parts (is_ascii_alphabetic c) _ h).0)

column_len-with_dollar : (marked : Bool) (ls rest : List ℕ) → are_letters ls ≡ true → prefix_len is_ascii_alphabetic rest ≡ 0 → column_len (with_dollar marked ls ++ rest) ≡ length (with_dollar marked ls)
column_len-with_dollar true ls rest letters stop =
    omega (arith, prefix_len-stops is_ascii_alphabetic ls rest (list_all-are_letters ls letters) stop)
column_len-with_dollar false ls rest letters stop =
    column_len-letters ls rest letters ∙ prefix_len-stops is_ascii_alphabetic ls rest (list_all-are_letters ls letters) stop

-- letters end where the row begins
pub column_part-append : (marked : Bool) (ls rest : List ℕ) → are_letters ls ≡ true → prefix_len is_ascii_alphabetic rest ≡ 0 → column_part (with_dollar marked ls ++ rest) ≡ with_dollar marked ls
column_part-append marked ls rest letters stop =
    ap (λ n. take n (with_dollar marked ls ++ rest)) (column_len-with_dollar marked ls rest letters stop)
    ∙ take_at (with_dollar marked ls) rest (length (with_dollar marked ls)) refl

pub row_part-append : (marked : Bool) (ls rest : List ℕ) → are_letters ls ≡ true → prefix_len is_ascii_alphabetic rest ≡ 0 → row_part (with_dollar marked ls ++ rest) ≡ rest
row_part-append marked ls rest letters stop =
    ap (λ n. drop n (with_dollar marked ls ++ rest)) (column_len-with_dollar marked ls rest letters stop)
    ∙ drop_at (with_dollar marked ls) rest (length (with_dollar marked ls)) refl

abbrev cell_of : List ℕ → List ℕ → Spelled Place
cell_of ls ds = both (λ col row. record { sheet = 0; col = col; row = row }) (column_of ls) (row_of ds)

pub spelled_address-append : (ls ds : List ℕ) → are_letters ls ≡ true → are_digits ds ≡ true → spelled_address (ls ++ ds) ≡ cell_of ls ds
spelled_address-append ls ds letters digits =
    let stop = no_letter_first ds digits in
    ap (λ x. cell_of (undollared x) (undollared (row_part (ls ++ ds)))) (column_part-append false ls ds letters stop)
    ∙ ap (λ x. cell_of (undollared ls) (undollared x)) (row_part-append false ls ds letters stop)
    ∙ ap (λ x. cell_of x (undollared ds)) (undollared-letters ls letters)
    ∙ ap (cell_of ls) (undollared-digits ds digits)

up_to-inside : (last n : ℕ) → 1 ≤ n → n ≤ last → up_to last n ≡ Is n
up_to-inside last n low high = cond-true (nat_le 1 n && nat_le n last) _ _ (and_from _ _ (le-leb 1 n low) (le-leb n last high))

pub column_of-column_letters : (n : ℕ) → 1 ≤ n → n ≤ 1024 → column_of (column_letters n) ≡ Is n
column_of-column_letters n low high =
    cond-true (are_letters (column_letters n)) _ _ (are_letters-column_letters n low)
    ∙ ap (up_to 1024) (column_number-column_letters n high)
    ∙ up_to-inside 1024 n low high

digits_value-decimal_digits : (n : ℕ) → n < 2 ^ 64 → digits_value 10 (decimal n) ≡ n
digits_value-decimal_digits n high = (decimal_is_IsNumeral n high).1

pub row_of-decimal : (n : ℕ) → 1 ≤ n → n ≤ 1048576 → row_of (decimal n) ≡ Is n
row_of-decimal n low high =
    cond-true (are_digits (decimal n)) _ _ (are_digits-decimal n low (omega arith))
    ∙ ap (up_to 1048576) (digits_value-decimal_digits n (omega arith))
    ∙ up_to-inside 1048576 n low high

-- the letters and the digits of a cell name it
pub spelled_address-address : (col row : ℕ) → 1 ≤ col → col ≤ 1024 → 1 ≤ row → row ≤ 1048576 → spelled_address (column_letters col ++ decimal row) ≡ Is (record { sheet = 0; col = col; row = row })
spelled_address-address col row col_from col_to row_from row_to =
    spelled_address-append (column_letters col) (decimal row) (are_letters-column_letters col col_from) (are_digits-decimal row row_from (omega arith))
    ∙ ap (λ x. both (λ u v. record { sheet = 0; col = u; row = v }) x (row_of (decimal row))) (column_of-column_letters col col_from col_to)
    ∙ ap (λ x. both (λ u v. record { sheet = 0; col = u; row = v }) (Is col) x) (row_of-decimal row row_from row_to)

-- neither letters nor digits have a point
pub list_any-none : (p q : ℕ → Bool) (xs : List ℕ) → ((c : ℕ) → q c ≡ true → p c ≡ false) → list_all q xs ≡ true → list_any p xs ≡ false
list_any-none p q [] apart all = refl
list_any-none p q (x ∷ xs) apart all =
    let parts = and_parts (q x) (list_all q xs) all in
    or_from (p x) (list_any p xs) (apart x parts.0) (list_any-none p q xs apart parts.1)

address_no_point : (ls ds : List ℕ) → are_letters ls ≡ true → are_digits ds ≡ true → list_any is_point (ls ++ ds) ≡ false
address_no_point ls ds letters digits =
    list_any-append is_point ls ds
    ∙ or_from _ _ (list_any-none is_point is_ascii_alphabetic ls letter_no_point (list_all-are_letters ls letters)) (list_any-none is_point is_ascii_digit ds digit_no_point (list_all-are_digits ds digits))

-- the word of a sheet, up to the point
are_digits_or_zero-are_digits : (ds : List ℕ) → are_digits ds ≡ true → are_digits_or_zero ds ≡ true
are_digits_or_zero-are_digits [] h = h
are_digits_or_zero-are_digits (c ∷ []) h = (and_parts (is_ascii_digit c) true (and_parts (not (c == 48)) _ h).1).0
are_digits_or_zero-are_digits (c ∷ d ∷ ds) h = h

pub sheet_of-sheet_word : (sheet : ℕ) → sheet ≤ 15 → sheet_of (undollared (sheet_word sheet)) ≡ Is sheet
sheet_of-sheet_word sheet high =
    let back : sheet + 1 - 1 ≡ sheet = omega arith in
    let digits = are_digits_or_zero-are_digits (decimal (sheet + 1)) (are_digits-decimal (sheet + 1) (omega arith) (omega arith)) in
    cond-true (are_digits_or_zero (decimal (sheet + 1))) _ _ digits
    ∙ ap (λ n. from_zero (up_to 16 n)) (digits_value-decimal_digits (sheet + 1) (omega arith))
    ∙ ap from_zero (up_to-inside 16 (sheet + 1) (omega arith) (omega arith))
    ∙ ap Is back

list_all-not : (p : ℕ → Bool) (xs : List ℕ) → list_any p xs ≡ false → list_all (λ x. not (p x)) xs ≡ true
list_all-not p [] h = refl
list_all-not p (x ∷ xs) h =
    let parts = or_parts (p x) (list_any p xs) h in
    and_from (not (p x)) _ (not_from_false (p x) parts.0) (list_all-not p xs parts.1)

-- a byte that passes cuts the text after one in which none passes
pub record IsCutAt (p : ℕ → Bool) (text front rest : List ℕ) : Type 0 where
  pub has : list_any p text ≡ true
  pub before : before_first p text ≡ front
  pub after : after_first p text ≡ rest

pub cut_at_first : (p : ℕ → Bool) (c : ℕ) (before rest : List ℕ) → p c ≡ true → list_any p before ≡ false → IsCutAt p (before ++ c ∷ rest) before rest
cut_at_first p c before rest here none =
    let stops = prefix_len-stops (λ x. not (p x)) before (c ∷ rest) (list_all-not p before none) (cond-false (not (p c)) _ _ (not_from_true (p c) here)) in
    record {
      has = list_any-append p before (c ∷ rest) ∙ or_right (list_any p before) _ (or_left (p c) (list_any p rest) here);
      before = ap (λ n. take n (before ++ c ∷ rest)) stops ∙ take_at before (c ∷ rest) (length before) refl;
      after =
          ap (λ n. drop (n + 1) (before ++ c ∷ rest)) stops
          ∙ sym (drop-drop 1 (length before) (before ++ c ∷ rest))
          ∙ ap (drop 1) (drop_at before (c ∷ rest) (length before) refl);
    }

spelled_on_sheet : (word rest : List ℕ) → list_any is_point word ≡ false → (sheet_part (word ++ 46 ∷ rest) ≡ sheet_of (undollared word)) × (after_sheet (word ++ 46 ∷ rest) ≡ rest)
spelled_on_sheet word rest none =
    let cut = cut_at_first is_point 46 word rest refl none in (
      cond-true (list_any is_point (word ++ 46 ∷ rest)) _ _ cut.has ∙ ap (λ w. sheet_of (undollared w)) cut.before,
      cond-true (list_any is_point (word ++ 46 ∷ rest)) _ _ cut.has ∙ cut.after,
    )

joined : (text rest : List ℕ) (sheet : ℕ) (q : Place) → sheet_part text ≡ Is sheet → after_sheet text ≡ rest → spelled_address rest ≡ Is q → spelled_cell text ≡ Is (place_on sheet q)
joined text rest sheet q part after address =
    ap (λ x. both place_on x (spelled_address (after_sheet text))) part
    ∙ ap (λ x. both place_on (Is sheet) (spelled_address x)) after
    ∙ ap (both place_on (Is sheet)) address

-- what is printed for a cell is read as that cell
pub cells_read_back : (p : Place) → IsPlace p → spelled_cell (address p) ≡ Is p
cells_read_back p is =
    let ls = column_letters p.col in
    let ds = decimal p.row in
    let letters = are_letters-column_letters p.col is.col_from in
    let digits = are_digits-decimal p.row is.row_from (omega (arith, is.row_to)) in
    let q : Place = record { sheet = 0; col = p.col; row = p.row } in
    let here : spelled_address (ls ++ ds) ≡ Is q = spelled_address-address p.col p.row is.col_from is.col_to is.row_from is.row_to in
    cond_both (p.sheet == 0) [] (sheet_word p.sheet ++ codes ".") (λ x. spelled_cell (x ++ (ls ++ ds)) ≡ Is p)
    (λ first.
    let none = address_no_point ls ds letters digits in
    let sheet : 0 ≡ p.sheet = sym (eqb-true p.sheet 0 first) in
    joined (ls ++ ds) (ls ++ ds) 0 q (cond-false (list_any is_point (ls ++ ds)) _ _ none) (cond-false (list_any is_point (ls ++ ds)) _ _ none) here
    ∙ ap (λ s. Is (place_on s q)) sheet)
    (λ _.
    let word = sheet_word p.sheet in
    let none = list_any-none is_point is_ascii_digit (decimal (p.sheet + 1)) digit_no_point (digits_decimal digits_test (p.sheet + 1) (omega (arith, is.sheet_in))) in
    let on = spelled_on_sheet word (ls ++ ds) none in
    let text = append_assoc word (codes ".") (ls ++ ds) in
    ap spelled_cell text
    ∙ joined (word ++ 46 ∷ (ls ++ ds)) (ls ++ ds) p.sheet q (on.0 ∙ sheet_of-sheet_word p.sheet is.sheet_in) on.1 here)
