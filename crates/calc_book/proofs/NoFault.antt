-- What holds of records that have no fault.
use Rattle.std.proofs.Common.{◌≡◌, ℕ, ◌+◌, ◌≤◌, Bool, true, false, cond, nat_lt, [], ◌∷◌, length, Option, Some, None, refl, arith}
use Rattle.std.specs.Prelude.{option_map}
use Rattle.std.specs.Option.{option_or}
use Rattle.std.specs.List.{All}
use Rattle.std.specs.Str.{is_utf8}
use Rattle.std.proofs.lemmas.Bool.Decides.{nat_tests}
use Rattle.std.proofs.lemmas.List.Elements.{All-cons, All-nil}
use Rattle.std.proofs.lemmas.Str.{IsUtf8-from_is_utf8}
use Rattle.calc_addr.specs.Places.{Place}
use Rattle.calc_addr.specs.declared.cell.TheConstants.{LAST_COL, LAST_ROW}
use Rattle.csv.specs.Records.{AllText}
use Rattle.calc_book.specs.BookCells.{Fields, Records, bad_cell, first_fault, record_fault}
use Rattle.calc_book.specs.declared.cause.BookCause.{BookCause}
use Rattle.calc_book.specs.declared.cause.BookCause.TheVariants.{TooManyRows, TooManyFields, NotUtf8}

not_past : (last n : ℕ) → nat_lt last n ≡ false → n ≤ last
not_past last n h = grind (arith, nat_tests)

-- A record without a fault.
record IsGood (row : ℕ) (fields : Fields) : Type 0 where
  within : row ≤ LAST_ROW
  few : length fields ≤ LAST_COL
  text : AllText fields

all_text : (row col : ℕ) (fields : Fields) → bad_cell row col fields ≡ None → AllText fields
unfolding AllText
all_text row col [] none = tt
all_text row col (text ∷ texts) none =
    let by_test : (b : Bool) → is_utf8 text ≡ b → cond b (bad_cell row (col + 1) texts) (Some (record { sheet = 0; col = col; row = row })) ≡ None → AllText (text ∷ texts) =
    λ b. elim b as (λ b. is_utf8 text ≡ b → cond b (bad_cell row (col + 1) texts) (Some (record { sheet = 0; col = col; row = row })) ≡ None → AllText (text ∷ texts)) [
      | true ↦ λ is rest. (IsUtf8-from_is_utf8 text is, all_text row (col + 1) texts rest)
      | false ↦ λ is some. cc
    ]
    in by_test (is_utf8 text) refl none

no_cell : (cell : Option Place) → option_map NotUtf8 cell ≡ None → cell ≡ None
no_cell None is = refl
no_cell (Some cell) is = cc

good : (row : ℕ) (fields : Fields) → record_fault row fields ≡ None → IsGood row fields
good row fields none =
    let bad = bad_cell row 1 fields in
    let by_tests : (past wide : Bool) → nat_lt LAST_ROW row ≡ past → nat_lt LAST_COL (length fields) ≡ wide → cond past (Some TooManyRows) (cond wide (Some (TooManyFields row)) (option_map NotUtf8 bad)) ≡ None → IsGood row fields =
    λ past wide. elim past as (λ past. nat_lt LAST_ROW row ≡ past → nat_lt LAST_COL (length fields) ≡ wide → cond past (Some TooManyRows) (cond wide (Some (TooManyFields row)) (option_map NotUtf8 bad)) ≡ None → IsGood row fields) [
      | true ↦ λ a b is. cc
      | false ↦ λ a. elim wide as (λ wide. nat_lt LAST_COL (length fields) ≡ wide → cond wide (Some (TooManyFields row)) (option_map NotUtf8 bad) ≡ None → IsGood row fields) [
        | true ↦ λ b is. cc
        | false ↦ λ b is. record {
          within = not_past LAST_ROW row a;
          few = not_past LAST_COL (length fields) b;
          text = all_text row 1 fields (no_cell bad is);
        }
      ]
    ]
    in by_tests (nat_lt LAST_ROW row) (nat_lt LAST_COL (length fields)) refl refl none

pub row_within : (row : ℕ) (fields : Fields) → record_fault row fields ≡ None → row ≤ LAST_ROW
row_within row fields none = (good row fields none).within

pub fields_few : (row : ℕ) (fields : Fields) → record_fault row fields ≡ None → length fields ≤ LAST_COL
fields_few row fields none = (good row fields none).few

pub fields_text : (row : ℕ) (fields : Fields) → record_fault row fields ≡ None → AllText fields
fields_text row fields none = (good row fields none).text

first_none : (first later : Option BookCause) → option_or first later ≡ None → (first ≡ None) × (later ≡ None)
first_none None later is = (refl, is)
first_none (Some cause) later is = cc

-- none of the records has a fault
pub none_at_fault : (row : ℕ) (fields : Fields) (rest : Records) → first_fault row (fields ∷ rest) ≡ None → (record_fault row fields ≡ None) × (first_fault (row + 1) rest ≡ None)
none_at_fault row fields rest is = first_none (record_fault row fields) (first_fault (row + 1) rest) is

pub all_texts : (row : ℕ) (all : Records) → first_fault row all ≡ None → All AllText all
all_texts row [] none = All-nil AllText
all_texts row (fields ∷ rest) none =
    let both = none_at_fault row fields rest none in
    All-cons AllText fields rest (fields_text row fields both.0) (all_texts (row + 1) rest both.1)

pub all_few : (row : ℕ) (all : Records) → first_fault row all ≡ None → All (λ fields. length fields ≤ LAST_COL) all
all_few row [] none = All-nil (λ (fields : Fields). length fields ≤ LAST_COL)
all_few row (fields ∷ rest) none =
    let both = none_at_fault row fields rest none in
    All-cons (λ fields. length fields ≤ LAST_COL) fields rest (fields_few row fields both.0) (all_few (row + 1) rest both.1)

pub rows_within : (row : ℕ) (all : Records) → 1 ≤ row → row ≤ LAST_ROW + 1 → first_fault row all ≡ None → row + length all ≤ LAST_ROW + 1
rows_within row [] from to none = omega (arith, to)
rows_within row (fields ∷ rest) from to none =
    let both = none_at_fault row fields rest none in
    let here = row_within row fields both.0 in
    let after = rows_within (row + 1) rest (omega arith) (omega (arith, here)) both.1 in
    omega (arith, after)
