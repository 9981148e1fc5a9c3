-- What a text spells lies inside the sheets.
use Rattle.std.proofs.Common.{◌≡◌, ℕ, ◌≤◌, Bool, true, false, cond, ◌&&◌, List, refl, subst, arith}
use Rattle.std.specs.Prelude.{nat_le}
use Rattle.std.specs.List.{list_any, before_first, after_first}
use Rattle.std.specs.Str.Parse.{digits_value}
use Rattle.std.proofs.lemmas.Bool.{and_parts, leb-true}
use Rattle.calc_addr.specs.Places.{Place, IsPlace, Rectangle, IsRectangle}
use Rattle.calc_addr.specs.Letters.{column_number}
use Rattle.calc_addr.specs.Spelling.{after_sheet, are_digits, are_letters, area_on, both, column_of, column_part, is_colon, place_on, row_of, row_part, sheet_part, spanned, spelled_address, spelled_area, spelled_cell, spelled_corners, undollared, up_to}
use Rattle.calc_addr.specs.declared.read.Spelled.{Spelled}
use Rattle.calc_addr.specs.declared.read.Spelled.TheVariants.{Is, Outside, Not}
use Rattle.calc_addr.proofs.Spelling.Joined.{sheet_part_inside}

-- both parts of what is spelled
pub record AreBoth {A B C : Type 0} (f : A → B → C) (x : Spelled A) (y : Spelled B) (c : C) : Type 0 where
  pub first : A
  pub second : B
  pub first_is : x ≡ Is first
  pub second_is : y ≡ Is second
  pub made : f first second ≡ c

pub both_from : {A B C : Type 0} (f : A → B → C) (x : Spelled A) (y : Spelled B) (c : C) → both f x y ≡ Is c → AreBoth f x y c
both_from f (Is a) (Is b) c e = record { first = a; second = b; first_is = refl; second_is = refl; made = cc }
both_from f (Is a) Outside c e = cc
both_from f (Is a) Not c e = cc
both_from f Outside (Is b) c e = cc
both_from f Outside Outside c e = cc
both_from f Outside Not c e = cc
both_from f Not y c e = cc

-- a number that lies inside
pub record LiesUpTo (last n : ℕ) : Type 0 where
  pub from : 1 ≤ n
  pub to : n ≤ last

lies : (inside : Bool) (last m n : ℕ) → (inside ≡ true → LiesUpTo last m) → cond inside (Is m) Outside ≡ Is n → LiesUpTo last n
lies true last m n h e =
    let same : m ≡ n = cc in
    subst (LiesUpTo last) same (h refl)
lies false last m n h e = cc

lies_if : (form : Bool) (last m n : ℕ) → cond form (up_to last m) Not ≡ Is n → LiesUpTo last n
lies_if true last m n e =
    lies (nat_le 1 m && nat_le m last) last m n
    (λ h. let parts = and_parts (nat_le 1 m) (nat_le m last) h in record { from = leb-true 1 m parts.0; to = leb-true m last parts.1 }) e
lies_if false last m n e = cc

pub column_of-inside : (letters : List ℕ) (n : ℕ) → column_of letters ≡ Is n → LiesUpTo 1024 n
column_of-inside letters n e = lies_if (are_letters letters) 1024 (column_number letters) n e

pub row_of-inside : (digits : List ℕ) (n : ℕ) → row_of digits ≡ Is n → LiesUpTo 1048576 n
row_of-inside digits n e = lies_if (are_digits digits) 1048576 (digits_value 10 digits) n e

-- a cell of the first sheet
pub spelled_address-IsPlace : (text : List ℕ) (p : Place) → spelled_address text ≡ Is p → IsPlace p
spelled_address-IsPlace text p e =
    let parts = both_from (λ col row. let place : Place = record { sheet = 0; col = col; row = row } in place)
    (column_of (undollared (column_part text))) (row_of (undollared (row_part text))) p e in
    let col = column_of-inside (undollared (column_part text)) parts.first parts.first_is in
    let row = row_of-inside (undollared (row_part text)) parts.second parts.second_is in
    subst IsPlace parts.made (record { sheet_in = omega arith; col_from = col.from; col_to = col.to; row_from = row.from; row_to = row.to })

pub spelled_cells_lie_inside : (text : List ℕ) (p : Place) → spelled_cell text ≡ Is p → IsPlace p
spelled_cells_lie_inside text p e =
    let parts = both_from place_on (sheet_part text) (spelled_address (after_sheet text)) p e in
    let there = spelled_address-IsPlace (after_sheet text) parts.second parts.second_is in
    subst IsPlace parts.made (record {
      sheet_in = sheet_part_inside text parts.first parts.first_is;
      col_from = there.col_from;
      col_to = there.col_to;
      row_from = there.row_from;
      row_to = there.row_to;
    })

-- a rectangle of two cells
spanned-IsRectangle : (p q : Place) → IsPlace p → IsPlace q → IsRectangle (spanned p q)
spanned-IsRectangle p q here there = record {
  sheet_in = here.sheet_in;
  cols_from = omega (arith, here.col_from, there.col_from);
  cols_in_order = omega arith;
  cols_to = omega (arith, here.col_to, there.col_to);
  rows_from = omega (arith, here.row_from, there.row_from);
  rows_in_order = omega arith;
  rows_to = omega (arith, here.row_to, there.row_to);
}

two_corners : (first last : List ℕ) (a : Rectangle) → both spanned (spelled_address first) (spelled_address last) ≡ Is a → IsRectangle a
two_corners first last a e =
    let parts = both_from spanned (spelled_address first) (spelled_address last) a e in
    subst IsRectangle parts.made
    (spanned-IsRectangle parts.first parts.second (spelled_address-IsPlace first parts.first parts.first_is) (spelled_address-IsPlace last parts.second parts.second_is))

either : {A : Type 0} (P : A → Type 0) (b : Bool) (x y : Spelled A) (a : A) → (x ≡ Is a → P a) → (y ≡ Is a → P a) → cond b x y ≡ Is a → P a
either P true x y a h k e = h e
either P false x y a h k e = k e

spelled_corners-IsRectangle : (text : List ℕ) (a : Rectangle) → spelled_corners text ≡ Is a → IsRectangle a
spelled_corners-IsRectangle text a e =
    either IsRectangle (list_any is_colon text) (both spanned (spelled_address (before_first is_colon text)) (spelled_address (after_first is_colon text)))
    (both spanned (spelled_address text) (spelled_address text)) a
    (two_corners (before_first is_colon text) (after_first is_colon text) a) (two_corners text text a) e

pub spelled_areas_lie_inside : (text : List ℕ) (a : Rectangle) → spelled_area text ≡ Is a → IsRectangle a
spelled_areas_lie_inside text a e =
    let parts = both_from area_on (sheet_part text) (spelled_corners (after_sheet text)) a e in
    let there = spelled_corners-IsRectangle (after_sheet text) parts.second parts.second_is in
    subst IsRectangle parts.made (record {
      sheet_in = sheet_part_inside text parts.first parts.first_is;
      cols_from = there.cols_from;
      cols_in_order = there.cols_in_order;
      cols_to = there.cols_to;
      rows_from = there.rows_from;
      rows_in_order = there.rows_in_order;
      rows_to = there.rows_to;
    })
