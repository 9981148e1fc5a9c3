-- The cells of an area, column by column.
use Rattle.std.proofs.Common.{◌≡◌, ◌≤◌, ◌<◌, ℕ, ◌+◌, Bool, true, false, cond, ◌&&◌, ◌||◌, nat_lt, refl, sym, ap, ◌∙◌, arith}
use Rattle.std.specs.Prelude.{◌==◌}
use Rattle.std.proofs.lemmas.Bool.{and_from, and_parts, eq-eqb, eqb-true}
use Rattle.std.proofs.lemmas.Bool.Decides.{leb_tells, nat_tests}
use Rattle.calc_addr.specs.declared.cell.TheConstants.{LAST_COL, LAST_ROW, LAST_SHEET}
use Rattle.calc_addr.specs.Places.{IsPlace, IsRectangle, Place, Rectangle, Rows, covers}
use Rattle.calc_model.specs.Books.{is_place}
use Rattle.calc_model.proofs.Areas.{covered, inside}
use Rattle.ears.proofs.Meetings.{both_ways}
use Rattle.registration_slab.specs.Slab.{is_in}
use Rattle.formula_listeners.proofs.InRuns.{is_inside, lies_in}

-- the cell is one of the area, in a column before that one
abbrev pub is_before : Rectangle → ℕ → Place → Bool
is_before area col q = covers area q && nat_lt q.col col

pub place_in : (area : Rectangle) (q : Place) → IsRectangle area → covers area q ≡ true → IsPlace q
place_in area q valid h =
    let at = inside area q h in
    record {
      sheet_in = omega (arith, at.same_sheet, valid.sheet_in);
      col_from = omega (arith, at.col_from, valid.cols_from);
      col_to = omega (arith, at.col_to, valid.cols_to);
      row_from = omega (arith, at.row_from, valid.rows_from);
      row_to = omega (arith, at.row_to, valid.rows_to);
    }

pub before_end : (area : Rectangle) (col : ℕ) (q : Place) → area.last_col < col → is_before area col q ≡ covers area q
before_end area col q past = both_ways _ _ (λ h. (and_parts (covers area q) (nat_lt q.col col) h).0) (λ h. and_from (covers area q) (nat_lt q.col col) h (low h))
  where
    low : covers area q ≡ true → nat_lt q.col col ≡ true
    low h = let at = inside area q h in grind (arith, nat_tests, at.col_to, past)

off : (a b : Bool) → b ≡ false → (a && b) ≡ false
off true b none = none
off false b none = refl

-- what is held before one step, with the step
step : {X : Type 0} (c e l : Bool) (u o : X) → cond (c && e) u (cond (c && l) u o) ≡ cond (c && (e || l)) u o
step false e l u o = refl
step true true l u o = refl
step true false l u o = refl

next : (n m : ℕ) → ((n == m) || nat_lt n m) ≡ nat_lt n (m + 1)
next n m = grind (arith, nat_tests)

module _ (area : Rectangle) (col : ℕ) (from : area.first_col ≤ col) (to : col ≤ area.last_col) where
  abbrev pub column : Rows
  column = record { sheet = area.sheet; col = col; first = area.first_row; last = area.last_row }

  column_is : (q : Place) → is_in column q ≡ (covers area q && (q.col == col))
  column_is q = both_ways _ _ there back
    where
      there : is_in column q ≡ true → (covers area q && (q.col == col)) ≡ true
      there h =
          let at = lies_in column q h in
          and_from (covers area q) (q.col == col)
          (covered area q (record { same_sheet = at.sheet; col_from = omega (arith, at.col, from); col_to = omega (arith, at.col, to); row_from = at.from; row_to = at.to }))
          (eq-eqb q.col col at.col)

      back : (covers area q && (q.col == col)) ≡ true → is_in column q ≡ true
      back h =
          let both = and_parts (covers area q) (q.col == col) h in
          let at = inside area q both.0 in
          is_inside column q (record { sheet = at.same_sheet; col = eqb-true q.col col both.1; from = at.row_from; to = at.row_to })

  pub one_more : {X : Type 0} (q : Place) (u o : X) → cond (is_in column q) u (cond (is_before area col q) u o) ≡ cond (is_before area (col + 1) q) u o
  one_more q u o =
      ap (λ b. cond b u (cond (is_before area col q) u o)) (column_is q)
      ∙ step (covers area q) (q.col == col) (nat_lt q.col col) u o
      ∙ ap (λ b. cond (covers area q && b) u o) (next q.col col)

  -- a cell of the column is one of the area, and is in no column before it
  pub in_area : (q : Place) → is_in column q ≡ true → covers area q ≡ true
  in_area q h = (and_parts (covers area q) (q.col == col) (sym (column_is q) ∙ h)).0

  pub not_before : (q : Place) → is_in column q ≡ true → is_before area col q ≡ false
  not_before q h = let at = lies_in column q h in off (covers area q) (nat_lt q.col col) (grind (arith, nat_tests, at.col))

-- the cells of whole sheets
abbrev pub sheet_area : ℕ → Rectangle
sheet_area sheet = record { sheet = sheet; first_col = 1; last_col = LAST_COL; first_row = 1; last_row = LAST_ROW }

module _ (sheet : ℕ) (low : sheet ≤ LAST_SHEET) where
  sheet_is : (q : Place) → covers (sheet_area sheet) q ≡ (is_place q && (q.sheet == sheet))
  sheet_is q = grind (arith, nat_tests, leb_tells, low)

  pub one_sheet_more : {X : Type 0} (q : Place) (u o : X) → cond (covers (sheet_area sheet) q) u (cond (is_place q && nat_lt q.sheet sheet) u o) ≡ cond (is_place q && nat_lt q.sheet (sheet + 1)) u o
  one_sheet_more q u o =
      ap (λ b. cond b u (cond (is_place q && nat_lt q.sheet sheet) u o)) (sheet_is q)
      ∙ step (is_place q) (q.sheet == sheet) (nat_lt q.sheet sheet) u o
      ∙ ap (λ b. cond (is_place q && b) u o) (next q.sheet sheet)

  pub in_sheet : (q : Place) → covers (sheet_area sheet) q ≡ true → is_place q ≡ true
  in_sheet q h = (and_parts (is_place q) (q.sheet == sheet) (sym (sheet_is q) ∙ h)).0

  pub not_earlier : (q : Place) → covers (sheet_area sheet) q ≡ true → (is_place q && nat_lt q.sheet sheet) ≡ false
  not_earlier q h = let at = inside (sheet_area sheet) q h in off (is_place q) (nat_lt q.sheet sheet) (grind (arith, nat_tests, at.same_sheet))

pub all_sheets : (sheet : ℕ) (q : Place) → LAST_SHEET < sheet → (is_place q && nat_lt q.sheet sheet) ≡ is_place q
all_sheets sheet q past = grind (arith, nat_tests, leb_tells, past)
