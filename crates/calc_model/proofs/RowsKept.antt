-- Cells that go with rows that are inserted or deleted keep their order and stay in the sheet, and an area that goes
-- with them stays an area.
use Rattle.std.proofs.Common.{◌≡◌, ◌≤◌, ◌<◌, ℕ, Bool, true, false, ◌&&◌, not, cond, nat_lt, Option, Some, None, refl, ap, subst, sym, ◌∙◌, arith}
use Rattle.std.specs.Prelude.{◌==◌}
use Rattle.std.specs.Ordering.{is_lt, nat_cmp, ordering_then}
use Rattle.std.specs.declared.cmp.Ordering.{Ordering}
use Rattle.std.specs.declared.cmp.Ordering.TheVariants.{Less, Equal, Greater}
use Rattle.std.proofs.lemmas.Bool.Decides.{leb_tells, nat_tests}
use Rattle.calc_addr.specs.Places.{IsRectangle, Place, Rectangle, place_cmp, single}
use Rattle.calc_addr.specs.Shifts.{area_after_deletion, area_after_insertion, is_deleted, row_after_deletion, row_after_insertion}
use Rattle.calc_addr.specs.ValidReferences.{is_rectangle}
use Rattle.calc_addr.proofs.Shifting.ShiftLaws.{IsRectangle-deletion, IsRectangle-insertion}
use Rattle.calc_model.specs.Books.{is_place, is_target}
use Rattle.calc_model.specs.Homes.{home_after_deletion, home_after_insertion}
use Rattle.calc_model.specs.RowEdits.{is_in_rows}

same_numbers : (m n : ℕ) → nat_cmp m n ≡ Equal → m ≡ n
same_numbers m n h = grind (arith, nat_tests)

less_numbers : (m n : ℕ) → is_lt (nat_cmp m n) ≡ true → m < n
less_numbers m n h = grind (arith, nat_tests)

numbers_less : (m n : ℕ) → m < n → is_lt (nat_cmp m n) ≡ true
numbers_less m n h = grind (arith, nat_tests)

-- the order by sheet and column decides, or that of the rows stays
still_less : (s c : Ordering) (a b x y : ℕ) → (s ≡ Equal → a < b → x < y) → is_lt (ordering_then s (ordering_then c (nat_cmp a b))) ≡ true → is_lt (ordering_then s (ordering_then c (nat_cmp x y))) ≡ true
still_less Less c a b x y rise h = refl
still_less Equal Less a b x y rise h = refl
still_less Equal Equal a b x y rise h = numbers_less x y (rise refl (less_numbers a b h))
still_less Equal Greater a b x y rise h = cc
still_less Greater c a b x y rise h = cc

-- a cell of one sheet at another row
module _ (goes : ℕ → ℕ) (sheet : ℕ) where
  abbrev row_of : Place → ℕ
  row_of p = cond (p.sheet == sheet) (goes p.row) p.row

  pub home_is : (p : Place) → cond (p.sheet == sheet) (record p { row = goes p.row }) p ≡ record p { row = row_of p }
  home_is p = elim (p.sheet == sheet) as (λ b. cond b (record p { row = goes p.row }) p ≡ record p { row = cond b (goes p.row) p.row }) [ true ↦ refl | false ↦ refl ]

  module _ (gone : ℕ → Bool) (rise : (a b : ℕ) → gone a ≡ false → gone b ≡ false → a < b → goes a < goes b) where
    abbrev stays_at : Place → Bool
    stays_at p = not ((p.sheet == sheet) && gone p.row)

    to_false : (b : Bool) → not b ≡ true → b ≡ false
    to_false true h = cc
    to_false false h = refl

    one_sheet : (test : Bool) (a b : ℕ) → not (test && gone a) ≡ true → not (test && gone b) ≡ true → a < b → cond test (goes a) a < cond test (goes b) b
    one_sheet true a b h k less = rise a b (to_false (gone a) h) (to_false (gone b) k) less
    one_sheet false a b h k less = less

    rows_rise : (p q : Place) → stays_at p ≡ true → stays_at q ≡ true → is_lt (place_cmp p q) ≡ true → is_lt (place_cmp (record p { row = row_of p }) (record q { row = row_of q })) ≡ true
    rows_rise p q h k less =
        still_less (nat_cmp p.sheet q.sheet) (nat_cmp p.col q.col) p.row q.row (row_of p) (row_of q)
        (λ sheets rows.
        let same : p.sheet ≡ q.sheet = same_numbers p.sheet q.sheet sheets in
        subst (λ s. row_of p < cond (s == sheet) (goes q.row) q.row) same
        (one_sheet (p.sheet == sheet) p.row q.row h (subst (λ s. not ((s == sheet) && gone q.row) ≡ true) (sym same) k) rows))
        less

    pub homes_rise : (p q : Place) → stays_at p ≡ true → stays_at q ≡ true → is_lt (place_cmp p q) ≡ true → is_lt (place_cmp (cond (p.sheet == sheet) (record p { row = goes p.row }) p) (cond (q.sheet == sheet) (record q { row = goes q.row }) q)) ≡ true
    homes_rise p q h k less = rw (home_is p, home_is q) (rows_rise p q h k less)

inserted_rises : (place count a b : ℕ) → a < b → row_after_insertion place count a < row_after_insertion place count b
inserted_rises place count a b h = grind (arith, nat_tests)

deleted_rises : (place count a b : ℕ) → is_deleted place count a ≡ false → is_deleted place count b ≡ false → a < b → row_after_deletion place count a < row_after_deletion place count b
deleted_rises place count a b h k less = grind (arith, nat_tests)

none_gone : (b : Bool) → not (b && false) ≡ true
none_gone true = refl
none_gone false = refl

pub insertion_rises : (sheet place count : ℕ) (p q : Place) → is_lt (place_cmp p q) ≡ true → is_lt (place_cmp (home_after_insertion sheet place count p) (home_after_insertion sheet place count q)) ≡ true
insertion_rises sheet place count p q = homes_rise (row_after_insertion place count) sheet (λ _. false) (λ a b _ _. inserted_rises place count a b) p q (none_gone (p.sheet == sheet)) (none_gone (q.sheet == sheet))

pub deletion_rises : (sheet place count : ℕ) (p q : Place) → not (is_in_rows sheet place count p) ≡ true → not (is_in_rows sheet place count q) ≡ true → is_lt (place_cmp p q) ≡ true → is_lt (place_cmp (home_after_deletion sheet place count p) (home_after_deletion sheet place count q)) ≡ true
deletion_rises sheet place count = homes_rise (row_after_deletion place count) sheet (is_deleted place count) (deleted_rises place count)

pub tested_rectangle : (a : Rectangle) → IsRectangle a → is_rectangle a ≡ true
tested_rectangle a is = grind (arith, leb_tells)

pub rectangle_from : (a : Rectangle) → is_rectangle a ≡ true → IsRectangle a
rectangle_from a is = grind (arith, leb_tells)

pub stays_place : (p : Place) (row : ℕ) → is_place p ≡ true → 1 ≤ row → row ≤ 1048576 → is_place (record p { row = row }) ≡ true
stays_place p row is from to = grind (arith, nat_tests)

pub inserted_is_place : (sheet place count : ℕ) (p : Place) → is_place p ≡ true → nat_lt 1048576 (home_after_insertion sheet place count p).row ≡ false → is_place (home_after_insertion sheet place count p) ≡ true
inserted_is_place sheet place count p is inside =
    let home = home_is (row_after_insertion place count) sheet p in
    let row = row_of (row_after_insertion place count) sheet p in
    let low : nat_lt 1048576 row ≡ false = sym (ap (λ (q : Place). nat_lt 1048576 q.row) home) ∙ inside in
    let lies : IsRectangle (single p) = rectangle_from (single p) is in
    let from : 1 ≤ p.row = lies.rows_from in
    subst (λ q. is_place q ≡ true) (sym home) (stays_place p row is (grind (arith, nat_tests, from)) (grind (arith, nat_tests, low)))

pub deleted_is_place : (sheet place count : ℕ) (p : Place) → 1 ≤ place → is_place p ≡ true → not (is_in_rows sheet place count p) ≡ true → is_place (home_after_deletion sheet place count p) ≡ true
deleted_is_place sheet place count p from is stays =
    let home = home_is (row_after_deletion place count) sheet p in
    let row = row_of (row_after_deletion place count) sheet p in
    let lies : IsRectangle (single p) = rectangle_from (single p) is in
    let first : 1 ≤ p.row = lies.rows_from in
    let last : p.row ≤ 1048576 = lies.rows_to in
    subst (λ q. is_place q ≡ true) (sym home) (stays_place p row is (grind (arith, nat_tests, first, from, stays)) (grind (arith, nat_tests, last)))

shifted_target : (a : Rectangle) (o : Option Rectangle) → ((b : Rectangle) → o ≡ Some b → IsRectangle b) → is_target o ≡ true
shifted_target a None keeps = refl
shifted_target a (Some b) keeps = tested_rectangle b (keeps b refl)

pub inserted_target : (place count : ℕ) (a : Rectangle) → is_rectangle a ≡ true → is_target (area_after_insertion place count a) ≡ true
inserted_target place count a is = shifted_target a (area_after_insertion place count a) (λ b. IsRectangle-insertion place count a b (rectangle_from a is))

pub deleted_target : (place count : ℕ) → 1 ≤ place → (a : Rectangle) → is_rectangle a ≡ true → is_target (area_after_deletion place count a) ≡ true
deleted_target place count from a is = shifted_target a (area_after_deletion place count a) (λ b. IsRectangle-deletion place count a b from (rectangle_from a is))
