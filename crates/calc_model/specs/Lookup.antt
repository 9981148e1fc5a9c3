-- Functions that look into areas, after OpenFormula, 6.14: cells by their place, searches, rows and columns.
use Rattle.std.specs.Prelude.{ℕ, ℤ, pos, zero, suc, ◌+◌, ◌-◌, ◌*◌, ◌&&◌, ◌||◌, nat_le, not, Bool, true, List, [], ◌∷◌, map, take, Option, Some, None, if◌then◌else◌}
use Rattle.std.specs.List.{range_with_len, slice_index_or}
use Rattle.calc_addr.specs.Places.{Place, Rectangle}
use Rattle.calc_model.specs.declared.fault.Fault.TheVariants.{BadRef, BadValue, NA}
use Rattle.calc_model.specs.declared.value.Value.{Value}
use Rattle.calc_model.specs.declared.value.Value.TheVariants.{Bad, Blank}
use Rattle.calc_model.specs.Meanings.{Meaning, ValuedArea}
use Rattle.calc_model.specs.Operators.{from_ok}
use Rattle.calc_model.specs.Parameters.{area, key, truth_value, whole}
use Rattle.calc_model.specs.Scalars.{one_col, one_row}
use Rattle.calc_model.specs.Search.{place_by}
use Rattle.calc_model.specs.Texts.{counted}

abbrev pub row_count : Rectangle → ℕ
row_count a = a.last_row + 1 - a.first_row

abbrev pub col_count : Rectangle → ℕ
col_count a = a.last_col + 1 - a.first_col

-- the value in a row and a column of an area, both counted from 0
abbrev pub value_in : ValuedArea → ℕ → ℕ → Value
value_in a row col = slice_index_or a.values (col * row_count a.area + row) Blank

-- the cell in a row and a column, counted from 1, where the area has it
abbrev pub cell_in : ValuedArea → ℤ → ℤ → Value
cell_in a (pos (suc row)) (pos (suc col)) =
    if nat_le (suc row) (row_count a.area) && nat_le (suc col) (col_count a.area) then value_in a row col else Bad BadRef
cell_in a _ _ = Bad BadRef

-- a single number is the row, but in an area of one row and several columns the column
abbrev pub cell_along : ValuedArea → ℤ → Value
cell_along a place = if one_row a.area && not (one_col a.area) then cell_in a (pos 1) place else cell_in a place (pos 1)

abbrev pub index : List Meaning → Value
index (x ∷ place ∷ []) = from_ok (area x) (λ a. from_ok (whole place) (cell_along a))
index (x ∷ row ∷ col ∷ []) = from_ok (area x) (λ a. from_ok (whole row) (λ r. from_ok (whole col) (cell_in a r)))
index _ = Bad BadValue

abbrev pub if_found : Option ℕ → (ℕ → Value) → Value
if_found (Some place) next = next place
if_found None next = Bad NA

-- the place in an area of one row or column
abbrev pub matched : Value → ValuedArea → ℤ → Value
matched sought a type =
    if one_row a.area || one_col a.area then if_found (place_by type sought a.values) (λ place. counted (place + 1)) else Bad BadValue

abbrev pub match_ : List Meaning → Value
match_ (x ∷ y ∷ []) = from_ok (key x) (λ k. from_ok (area y) (λ a. matched k a (pos 1)))
match_ (x ∷ y ∷ type ∷ []) = from_ok (key x) (λ k. from_ok (area y) (λ a. from_ok (whole type) (matched k a)))
match_ _ = Bad BadValue

-- the type of a search in ascending order, or of an exact one
abbrev pub type_of : Bool → ℤ
type_of ascending = if ascending then pos 1 else pos 0

-- the values of the first column, and those of the first row
abbrev pub first_column : ValuedArea → List Value
first_column a = take (row_count a.area) a.values

abbrev pub first_row : ValuedArea → List Value
first_row a = map (value_in a 0) (range_with_len 0 (col_count a.area))

-- a number that is below 1 is no value, and one above a size is no reference
abbrev pub if_within : ℕ → ℤ → (ℕ → Value) → Value
if_within size (pos (suc n)) next = if nat_le (suc n) size then next n else Bad BadRef
if_within size _ next = Bad BadValue

abbrev pub looked_up_down : Value → ValuedArea → ℤ → Bool → Value
looked_up_down sought a col ascending =
    if_within (col_count a.area) col (λ c. if_found (place_by (type_of ascending) sought (first_column a)) (λ row. value_in a row c))

abbrev pub looked_up_along : Value → ValuedArea → ℤ → Bool → Value
looked_up_along sought a row ascending =
    if_within (row_count a.area) row (λ r. if_found (place_by (type_of ascending) sought (first_row a)) (λ col. value_in a r col))

-- VLOOKUP and HLOOKUP
abbrev pub look_up : (Value → ValuedArea → ℤ → Bool → Value) → List Meaning → Value
look_up by (x ∷ y ∷ place ∷ []) = from_ok (key x) (λ k. from_ok (area y) (λ a. from_ok (whole place) (λ w. by k a w true)))
look_up by (x ∷ y ∷ place ∷ ascending ∷ []) =
    from_ok (key x) (λ k. from_ok (area y) (λ a. from_ok (whole place) (λ w. from_ok (truth_value ascending) (by k a w))))
look_up by _ = Bad BadValue

-- the value of that number among the others, counted from 1
abbrev pub chosen : List Meaning → ℤ → Value
chosen (x ∷ xs) (pos (suc zero)) = x.scalar
chosen (x ∷ xs) (pos (suc (suc n))) = chosen xs (pos (suc n))
chosen _ _ = Bad BadValue

abbrev pub choose : List Meaning → Value
choose (place ∷ others) = from_ok (whole place) (chosen others)
choose [] = Bad BadValue

-- ROW and COLUMN: of an area, or of the formula's cell
abbrev pub first_of : (Place → ℕ) → (Rectangle → ℕ) → Place → List Meaning → Value
first_of own first home [] = counted (own home)
first_of own first home (x ∷ []) = from_ok (area x) (λ a. counted (first a.area))
first_of own first home _ = Bad BadValue

-- ROWS and COLUMNS
abbrev pub size_of : (Rectangle → ℕ) → List Meaning → Value
size_of size (x ∷ []) = from_ok (area x) (λ a. counted (size a.area))
size_of size _ = Bad BadValue
