-- Sums, means, extremes and counts over lists and areas, after OpenFormula, 6.16 and 6.18.
use Rattle.std.specs.Prelude.{ℤ, pos, ◌+ℤ◌, ◌==◌, ◌&&◌, ◌-◌, ◌^◌, not, Bool, true, false, List, [], ◌∷◌, fold, length, map, if◌then◌else◌}
use Rattle.std.specs.Int.{int_max, int_min}
use Rattle.std.specs.List.{count_by, filter, flat_map, zip}
use Rattle.calc_addr.specs.Places.{Rectangle}
use Rattle.calc_num.specs.Decimals.{◌>>=◌, checked, mul, nearest}
use Rattle.calc_num.specs.declared.num.NumFault.{NumFault}
use Rattle.std.specs.Prelude.{Result, Ok}
use Rattle.calc_model.specs.declared.fault.Fault.TheVariants.{BadValue, DivZero}
use Rattle.calc_model.specs.declared.value.Value.{Value}
use Rattle.calc_model.specs.declared.value.Value.TheVariants.{Number, Words, Bad, Blank}
use Rattle.calc_model.specs.Criteria.{Criterion, criterion, matches}
use Rattle.calc_model.specs.Lists.{number_in_cell, numbers, values_of_list}
use Rattle.calc_model.specs.Logic.{is_blank, is_number}
use Rattle.calc_model.specs.Meanings.{Meaning, ValuedArea}
use Rattle.calc_model.specs.Operators.{from_ok, value_of}
use Rattle.calc_model.specs.Parameters.{all_ok, area, key}
use Rattle.calc_model.specs.Texts.{counted}

-- the exact sum
abbrev pub total : List ℤ → ℤ
total ns = fold ◌+ℤ◌ (pos 0) ns

-- the exact sum, tested once
abbrev pub sum_of : List ℤ → Value
sum_of ns = value_of (checked (total ns))

abbrev pub sum : List Meaning → Value
sum parameters = from_ok (numbers parameters) sum_of

abbrev pub mean_of : List ℤ → Value
mean_of [] = Bad DivZero
mean_of (n ∷ ns) = Number (nearest (total (n ∷ ns)) (length (n ∷ ns)))

abbrev pub average : List Meaning → Value
average parameters = from_ok (numbers parameters) mean_of

abbrev pub least_of : List ℤ → ℤ
least_of [] = pos 0
least_of (n ∷ ns) = fold int_min n ns

abbrev pub greatest_of : List ℤ → ℤ
greatest_of [] = pos 0
greatest_of (n ∷ ns) = fold int_max n ns

abbrev pub min_ : List Meaning → Value
min_ parameters = from_ok (numbers parameters) (λ ns. Number (least_of ns))

abbrev pub max_ : List Meaning → Value
max_ parameters = from_ok (numbers parameters) (λ ns. Number (greatest_of ns))

-- from 1, multiplied in order, rounded and tested at each step
abbrev pub multiplied : Result ℤ NumFault → List ℤ → Result ℤ NumFault
multiplied before ns = fold (λ product n. product >>= (λ p. mul p n)) before ns

abbrev pub product_of : List ℤ → Value
product_of [] = Number (pos 0)
product_of (n ∷ ns) = value_of (multiplied (Ok (pos (10 ^ 9))) (n ∷ ns))

abbrev pub product : List Meaning → Value
product parameters = from_ok (numbers parameters) product_of

-- how many numbers; texts and errors are passed over
abbrev pub count : List Meaning → Value
count parameters = counted (count_by is_number (values_of_list parameters))

-- how many values that aren't blank
abbrev pub count_a : List Meaning → Value
count_a parameters = counted (count_by (λ value. not (is_blank value)) (values_of_list parameters))

-- blank, or the empty text
abbrev pub is_without_text : Value → Bool
is_without_text Blank = true
is_without_text (Words []) = true
is_without_text _ = false

abbrev pub count_blank : List Meaning → Value
count_blank (x ∷ []) = from_ok (area x) (λ a. counted (count_by is_without_text a.values))
count_blank _ = Bad BadValue

abbrev pub count_if : List Meaning → Value
count_if (x ∷ wanted ∷ []) =
    from_ok (area x) (λ a. from_ok (key wanted) (λ k. counted (count_by (matches (criterion k)) a.values)))
count_if _ = Bad BadValue

abbrev pub has_shape_of : Rectangle → Rectangle → Bool
has_shape_of a b = (a.last_col - a.first_col == b.last_col - b.first_col) && (a.last_row - a.first_row == b.last_row - b.first_row)

-- the values at the places whose cell in the first area matches
abbrev pub picked : Criterion → List Value → List Value → List Value
picked c tested values = map (λ (p : Value × Value). p.1) (filter (λ (p : Value × Value). matches c p.0) (zip tested values))

abbrev pub sum_picked : Value → ValuedArea → ValuedArea → Value
sum_picked k tested summed =
    if has_shape_of tested.area summed.area
    then from_ok (all_ok (flat_map number_in_cell (picked (criterion k) tested.values summed.values))) sum_of
    else Bad BadValue

abbrev pub sum_if : List Meaning → Value
sum_if (x ∷ wanted ∷ []) = from_ok (area x) (λ a. from_ok (key wanted) (λ k. sum_picked k a a))
sum_if (x ∷ wanted ∷ summed ∷ []) =
    from_ok (area x) (λ a. from_ok (key wanted) (λ k. from_ok (area summed) (λ b. sum_picked k a b)))
sum_if _ = Bad BadValue
