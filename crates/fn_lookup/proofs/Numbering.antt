-- Values by their number among parameters and in areas.
use Rattle.std.proofs.Common.{◌≡◌, ℕ, ℤ, pos, negsuc, zero, suc, ◌+◌, ◌*◌, ◌≤◌, ◌<◌, ◌<ℤ◌, List, [], ◌∷◌, ◌++◌, get_or, length, map, refl, sym, ap, ◌∙◌, arith}
use Rattle.std.specs.List.{flat_map, range_with_len}
use Rattle.std.proofs.lemmas.Int.{ints}
use Rattle.std.proofs.Math.Nat.{mul-le-mul_right}
use Rattle.std.proofs.lemmas.List.{get_or-append-add, get_or-map, get_or_append_left, length-map}
use Rattle.std.proofs.lemmas.List.FromFn.{get_or-map-range_with_len, length-range_with_len}
use Rattle.calc_addr.specs.Places.{Place, Rectangle, places}
use Rattle.calc_addr.proofs.Walking.Places.{length-places}
use Rattle.calc_model.specs.declared.arg.Arg.{Arg}
use Rattle.calc_model.specs.declared.fault.Fault.TheVariants.{BadValue}
use Rattle.calc_model.specs.declared.value.Value.TheVariants.{Bad, Blank}
use Rattle.calc_model.specs.Arguments.{meaning_of, meanings_of}
use Rattle.calc_model.specs.Lookup.{chosen, col_count, row_count, value_in}
use Rattle.calc_model.specs.Meanings.{Meaning, values_in}
use Rattle.calc_model.specs.Scalars.{CellValues}

pub chosen-below : (xs : List Meaning) (n : ℤ) → n <ℤ pos 1 → chosen xs n ≡ Bad BadValue
chosen-below [] (pos zero) h = refl
chosen-below [] (pos (suc n)) h = refl
chosen-below [] (negsuc n) h = refl
chosen-below (x ∷ xs) (pos zero) h = refl
chosen-below (x ∷ xs) (pos (suc n)) h = absurd (omega (arith, ints, h))
chosen-below (x ∷ xs) (negsuc n) h = refl

pub chosen-past : (xs : List Meaning) (n : ℕ) → length xs ≤ n → chosen xs (pos (suc n)) ≡ Bad BadValue
chosen-past [] n h = refl
chosen-past (x ∷ xs) zero h = absurd (omega (arith, h))
chosen-past (x ∷ xs) (suc n) h = chosen-past xs n (omega (arith, h))

pub chosen-at : (home : Place) (v : CellValues) (args : List Arg) (n : ℕ) (x : Arg) → n < length args → x ≡ get_or args n x → (meaning_of home v x).scalar ≡ chosen (meanings_of home v args) (pos (suc n))
chosen-at home v [] n x h e = absurd (omega (arith, h))
chosen-at home v (y ∷ args) zero x h e = ap (λ x. (meaning_of home v x).scalar) e
chosen-at home v (y ∷ args) (suc n) x h e = chosen-at home v args n x (omega (arith, h)) e

-- the cell in a row and a column of an area, both counted from 0, in area order
in_order : (sheet top rows left cols row col : ℕ) (d : Place) → row < rows → col < cols → get_or (flat_map (λ c. map (λ r. record { sheet = sheet; col = c; row = r }) (range_with_len top rows)) (range_with_len left cols)) (col * rows + row) d ≡ record { sheet = sheet; col = left + col; row = top + row }
in_order sheet top rows left zero row col d below within = absurd (omega (arith, within))
in_order sheet top rows left (suc cols) row zero d below within =
    let column : List Place = map (λ r. record { sheet = sheet; col = left; row = r }) (range_with_len top rows) in
    let size : length column ≡ rows = length-map (range_with_len top rows) (λ r. record { sheet = sheet; col = left; row = r }) ∙ length-range_with_len top rows in
    let index : 0 * rows + row ≡ row = omega arith in
    let here : left ≡ left + 0 = omega arith in
    ap (λ i. get_or (column ++ flat_map (λ c. map (λ r. record { sheet = sheet; col = c; row = r }) (range_with_len top rows)) (range_with_len (left + 1) cols)) i d) index
    ∙ get_or_append_left column _ d row (omega (arith, size, below))
    ∙ get_or-map-range_with_len (λ r. record { sheet = sheet; col = left; row = r }) top rows row (top + row) d below refl
    ∙ ap (λ c. record { sheet = sheet; col = c; row = top + row }) here
in_order sheet top rows left (suc cols) row (suc col) d below within =
    let column : List Place = map (λ r. record { sheet = sheet; col = left; row = r }) (range_with_len top rows) in
    let rest : List Place = flat_map (λ c. map (λ r. record { sheet = sheet; col = c; row = r }) (range_with_len top rows)) (range_with_len (left + 1) cols) in
    let size : length column ≡ rows = length-map (range_with_len top rows) (λ r. record { sheet = sheet; col = left; row = r }) ∙ length-range_with_len top rows in
    let index : suc col * rows + row ≡ length column + (col * rows + row) = omega (arith, size) in
    let here : left + 1 + col ≡ left + suc col = omega arith in
    ap (λ i. get_or (column ++ rest) i d) index
    ∙ get_or-append-add column rest (col * rows + row) d
    ∙ in_order sheet top rows (left + 1) cols row col d below (omega (arith, within))
    ∙ ap (λ c. record { sheet = sheet; col = c; row = top + row }) here

-- the value there
pub value-there : (v : CellValues) (a : Rectangle) (row col : ℕ) → row < row_count a → col < col_count a → v (record { sheet = a.sheet; col = a.first_col + col; row = a.first_row + row }) ≡ value_in (record { area = a; values = values_in v a }) row col
unfolding values_in
value-there v a row col below within =
    let i = col * row_count a + row in
    let d : Place = record { sheet = 0; col = 0; row = 0 } in
    let inside : i < length (places a) = omega (arith, length-places a, mul-le-mul_right (row_count a) within, below) in
    ap v (sym (in_order a.sheet a.first_row (row_count a) a.first_col (col_count a) row col d below within))
    ∙ sym (get_or-map v (places a) i d Blank inside)
