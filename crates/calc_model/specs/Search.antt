-- Searches over the values of cells, after OpenFormula, 6.14: only cells of the sought value's kind, number or text, take
-- part. Places are counted from 0.
use Rattle.std.specs.Prelude.{ℕ, ℤ, pos, negsuc, zero, suc, ◌&&◌, not, Bool, List, length, reverse, take, Option}
use Rattle.std.specs.List.{find, list_all, range_with_len, slice_index_or}
use Rattle.std.specs.Ordering.{is_eq, is_ge, is_gt, is_le, is_lt}
use Rattle.std.specs.declared.cmp.Ordering.{Ordering}
use Rattle.calc_model.specs.declared.value.Value.{Value}
use Rattle.calc_model.specs.declared.value.Value.TheVariants.{Blank}
use Rattle.calc_model.specs.Criteria.{order_in_kind, passes}

-- the value at a place
abbrev pub value_at : List Value → ℕ → Value
value_at values place = slice_index_or values place Blank

-- the places of a list
abbrev pub all_places : List Value → List ℕ
all_places values = range_with_len 0 (length values)

abbrev pub first_such : (ℕ → Bool) → List Value → Option ℕ
first_such test values = find test (all_places values)

abbrev pub last_such : (ℕ → Bool) → List Value → Option ℕ
last_such test values = find test (reverse (all_places values))

-- the first place whose value is equal
abbrev pub exact_place : Value → List Value → Option ℕ
exact_place sought values = first_such (λ place. passes is_eq (order_in_kind (value_at values place) sought)) values

-- the last place whose value stands so to the sought one, such that no value of the kind before it stands past it
abbrev pub ordered_place : (Ordering → Bool) → (Ordering → Bool) → Value → List Value → Option ℕ
ordered_place fits is_past sought values =
    last_such (λ place. passes fits (order_in_kind (value_at values place) sought)
    && list_all (λ value. not (passes is_past (order_in_kind value sought))) (take place values)) values

-- by the type of a search: 0 exact, above 0 in ascending order, below 0 in descending order
abbrev pub place_by : ℤ → Value → List Value → Option ℕ
place_by (pos zero) = exact_place
place_by (pos (suc n)) = ordered_place is_le is_gt
place_by (negsuc n) = ordered_place is_ge is_lt
