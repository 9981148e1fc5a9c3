-- How a script spells cells and areas. A cell is the letters of its column, in either case, and its
-- row; a dollar sign before either says nothing here. An area is a cell, or two with `:` between
-- them. A sheet's word and `.` may stand in front, and without them the first sheet is meant.
use Rattle.std.specs.Prelude.{ℕ, Bool, false, not, ◌-◌, ◌&&◌, ◌==◌, nat_eq, nat_le, min, max, if◌then◌else◌, ◌+◌, List, [], ◌∷◌, map, take, drop, codes}
use Rattle.std.specs.List.{list_all, list_any, prefix_len, before_first, after_first, starts_with}
use Rattle.std.specs.Char.{is_ascii_alphabetic, is_ascii_digit, to_ascii_lowercase}
use Rattle.std.specs.Str.Parse.{digits_value}
use Rattle.calc_addr.specs.declared.cell.TheConstants.{LAST_SHEET, LAST_COL, LAST_ROW}
use Rattle.calc_addr.specs.Places.{Place, Rectangle}
use Rattle.calc_addr.specs.Letters.{column_number}
use Rattle.calc_addr.specs.declared.read.Spelled.{Spelled}
use Rattle.calc_addr.specs.declared.read.Spelled.TheVariants.{Is, Outside, Not}

-- two parts of a text: first both must have their form, and then both must lie inside
abbrev pub both : {A B C : Type 0} → (A → B → C) → Spelled A → Spelled B → Spelled C
both f (Is a) (Is b) = Is (f a b)
both f (Is a) Outside = Outside
both f (Is a) Not = Not
both f Outside (Is b) = Outside
both f Outside Outside = Outside
both f Outside Not = Not
both f Not b = Not

-- a number, which lies inside from 1 to the last one
abbrev pub up_to : ℕ → ℕ → Spelled ℕ
up_to last n = if nat_le 1 n && nat_le n last then Is n else Outside

-- the text without a dollar sign in front
abbrev pub undollared : List ℕ → List ℕ
undollared [] = []
undollared (c ∷ cs) = if c == 36 then cs else c ∷ cs

-- one letter or more, and nothing else
abbrev pub are_letters : List ℕ → Bool
are_letters [] = false
are_letters (c ∷ cs) = list_all is_ascii_alphabetic (c ∷ cs)

-- one digit or more without a leading zero, and nothing else
abbrev pub are_digits : List ℕ → Bool
are_digits [] = false
are_digits (c ∷ cs) = not (c == 48) && list_all is_ascii_digit (c ∷ cs)

-- the same, or the digit `0` alone
abbrev pub are_digits_or_zero : List ℕ → Bool
are_digits_or_zero [] = false
are_digits_or_zero (c ∷ []) = is_ascii_digit c
are_digits_or_zero (c ∷ d ∷ ds) = are_digits (c ∷ d ∷ ds)

abbrev pub column_of : List ℕ → Spelled ℕ
column_of letters = if are_letters letters then up_to LAST_COL (column_number letters) else Not

abbrev pub row_of : List ℕ → Spelled ℕ
row_of digits = if are_digits digits then up_to LAST_ROW (digits_value 10 digits) else Not

-- how many bytes the letters at the front take, with a dollar sign before them
abbrev pub column_len : List ℕ → ℕ
column_len [] = 0
column_len (c ∷ cs) = if c == 36 then 1 + prefix_len is_ascii_alphabetic cs else prefix_len is_ascii_alphabetic (c ∷ cs)

-- a cell's column, and what follows it
abbrev pub column_part : List ℕ → List ℕ
column_part text = take (column_len text) text

abbrev pub row_part : List ℕ → List ℕ
row_part text = drop (column_len text) text

-- a cell without its sheet, as one of the first sheet
abbrev pub spelled_address : List ℕ → Spelled Place
spelled_address text =
    both (λ col row. record { sheet = 0; col = col; row = row }) (column_of (undollared (column_part text))) (row_of (undollared (row_part text)))

-- the corners of a rectangle, whichever stands first
abbrev pub spanned : Place → Place → Rectangle
spanned p q = record {
  sheet = p.sheet;
  first_col = min p.col q.col;
  last_col = max p.col q.col;
  first_row = min p.row q.row;
  last_row = max p.row q.row;
}

abbrev pub is_colon : ℕ → Bool
is_colon c = c == 58

-- one cell, or two opposite corners with `:` between them
abbrev pub spelled_corners : List ℕ → Spelled Rectangle
spelled_corners text =
    if list_any is_colon text
    then both spanned (spelled_address (before_first is_colon text)) (spelled_address (after_first is_colon text))
    else both spanned (spelled_address text) (spelled_address text)

-- the sheet of a number that is counted from 1
abbrev pub from_zero : Spelled ℕ → Spelled ℕ
from_zero (Is n) = Is (n - 1)
from_zero Outside = Outside
from_zero Not = Not

abbrev pub sheet_number : List ℕ → Spelled ℕ
sheet_number digits = if are_digits_or_zero digits then from_zero (up_to (LAST_SHEET + 1) (digits_value 10 digits)) else Not

-- the letters `sheet` in either case, then a number
abbrev pub sheet_of : List ℕ → Spelled ℕ
sheet_of word =
    if starts_with nat_eq (map to_ascii_lowercase word) (codes "sheet") then sheet_number (drop 5 word) else Not

abbrev pub is_point : ℕ → Bool
is_point c = c == 46

-- the sheet before the first point, or the first sheet where there is none
abbrev pub sheet_part : List ℕ → Spelled ℕ
sheet_part text = if list_any is_point text then sheet_of (undollared (before_first is_point text)) else Is 0

-- what stands after that point
abbrev pub after_sheet : List ℕ → List ℕ
after_sheet text = if list_any is_point text then after_first is_point text else text

abbrev pub place_on : ℕ → Place → Place
place_on sheet p = record p { sheet = sheet }

abbrev pub spelled_cell : List ℕ → Spelled Place
spelled_cell text = both place_on (sheet_part text) (spelled_address (after_sheet text))

abbrev pub area_on : ℕ → Rectangle → Rectangle
area_on sheet a = record a { sheet = sheet }

abbrev pub spelled_area : List ℕ → Spelled Rectangle
spelled_area text = both area_on (sheet_part text) (spelled_corners (after_sheet text))

-- a column or a row by itself
abbrev pub spelled_col : List ℕ → Spelled (ℕ × ℕ)
spelled_col text = both (λ sheet col. (sheet, col)) (sheet_part text) (column_of (undollared (after_sheet text)))

abbrev pub spelled_row : List ℕ → Spelled (ℕ × ℕ)
spelled_row text = both (λ sheet row. (sheet, row)) (sheet_part text) (row_of (undollared (after_sheet text)))
