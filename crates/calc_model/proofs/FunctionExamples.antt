-- Worked examples of the functions, from what parameters mean to a value.
use Rattle.std.proofs.Common.{◌≡◌, ℕ, ℤ, pos, negsuc, neg_ℤ, ◌-◌, ◌*◌, ◌^◌, List, [], ◌∷◌, ◌++◌, Some, codes, refl}
use lib.Utf8.{encode}
use Rattle.std.specs.Fmt.{digits}
use Rattle.std.specs.Str.{chars}
use Rattle.calc_num.specs.Decimals.{least, repeated_product}
use Rattle.calc_num.specs.Numbers.{last_digits}
use Rattle.calc_model.specs.Functions.{function_value}
use Rattle.calc_model.specs.Lists.{numbers, values_of_list}
use Rattle.calc_model.specs.Meanings.{Meaning, scalar_alone}
use Rattle.calc_model.specs.declared.fault.Fault.{Fault}
use Rattle.calc_model.specs.declared.fault.Fault.TheVariants.{NA, DivZero, BadValue, BadRef, BadName, BadNum, Over, Circular}
use Rattle.calc_model.specs.declared.value.Value.{Value}
use Rattle.calc_model.specs.declared.value.Value.TheVariants.{Number, Words, Bad, Blank}

-- to a formula in the second column and the third row
abbrev gives : List ℕ → List Meaning → Value
gives = function_value (record { sheet = 0; col = 2; row = 3 })

abbrev whole : ℕ → Value
whole n = Number (pos (n * 10 ^ 9))

abbrev raw : ℤ → Meaning
raw n = scalar_alone (Number n)

abbrev number : ℕ → Meaning
number n = scalar_alone (whole n)

abbrev words : List ℕ → Meaning
words bytes = scalar_alone (Words bytes)

abbrev error : Fault → Meaning
error fault = scalar_alone (Bad fault)

abbrev blank : Meaning
blank = scalar_alone Blank

-- an area of so many columns and rows, with its values column by column
abbrev cells : ℕ → ℕ → List Value → Meaning
cells cols rows values = record {
  scalar = Bad BadValue;
  area = Some (record { area = record { sheet = 0; first_col = 1; last_col = cols; first_row = 1; last_row = rows }; values = values });
}

-- numbers
the_size_of_a_negative : gives (codes "ABS") ((raw (negsuc 7499999999)) ∷ []) ≡ Number (pos 7500000000)
unfolding function_value
the_size_of_a_negative = refl

a_text_has_no_size : gives (codes "ABS") ((words (codes "x")) ∷ []) ≡ Bad BadValue
unfolding function_value
a_text_has_no_size = refl

the_sign_of_the_least_negative : gives (codes "SIGN") ((raw (negsuc 0)) ∷ []) ≡ Number (negsuc 999999999)
unfolding function_value
the_sign_of_the_least_negative = refl

blank_has_the_sign_zero : gives (codes "SIGN") (blank ∷ []) ≡ whole 0
unfolding function_value
blank_has_the_sign_zero = refl

whole_numbers_lie_below : gives (codes "INT") ((raw (negsuc 7499999999)) ∷ []) ≡ Number (negsuc 7999999999)
unfolding function_value
whole_numbers_lie_below = refl

the_fraction_is_dropped : gives (codes "INT") ((raw (pos 7999999999)) ∷ []) ≡ whole 7
unfolding function_value
the_fraction_is_dropped = refl

cut_toward_zero : gives (codes "TRUNC") ((raw (negsuc 7499999999)) ∷ []) ≡ Number (negsuc 6999999999)
unfolding function_value
cut_toward_zero = refl

cut_before_the_point : gives (codes "TRUNC") ((raw (pos 1234500000000)) ∷ (raw (negsuc 1999999999)) ∷ []) ≡ whole 1200
unfolding function_value
cut_before_the_point = refl

down_is_toward_zero : gives (codes "ROUNDDOWN") ((raw (negsuc 1289999999)) ∷ (number 1) ∷ []) ≡ Number (negsuc 1199999999)
unfolding function_value
down_is_toward_zero = refl

down_to_a_unit_beyond_every_number : gives (codes "ROUNDDOWN") ((number 5) ∷ (raw (negsuc 29999999999)) ∷ []) ≡ whole 0
unfolding function_value
down_to_a_unit_beyond_every_number = refl

half_goes_away_from_zero : gives (codes "ROUND") ((raw (negsuc 7499999999)) ∷ []) ≡ Number (negsuc 7999999999)
unfolding function_value
half_goes_away_from_zero = refl

a_tax_is_rounded_to_cents : gives (codes "ROUND") ((raw (pos 14001100000)) ∷ (number 2) ∷ []) ≡ whole 14
unfolding function_value
a_tax_is_rounded_to_cents = refl

nearest_to_a_unit_beyond_every_number : gives (codes "ROUND") ((raw (pos 5000000000)) ∷ (raw (negsuc 39999999999)) ∷ []) ≡ whole 0
unfolding function_value
nearest_to_a_unit_beyond_every_number = refl

up_is_away_from_zero : gives (codes "ROUNDUP") ((raw (negsuc 1009999999)) ∷ []) ≡ Number (negsuc 1999999999)
unfolding function_value
up_is_away_from_zero = refl

up_to_a_unit_beyond_every_number : gives (codes "ROUNDUP") ((raw (pos 500000000)) ∷ (raw (negsuc 26999999999)) ∷ []) ≡ Bad Over
unfolding function_value
up_to_a_unit_beyond_every_number = refl

up_from_zero : gives (codes "ROUNDUP") ((number 0) ∷ (raw (negsuc 26999999999)) ∷ []) ≡ whole 0
unfolding function_value
up_from_zero = refl

what_is_left_has_the_sign_of_the_divisor : gives (codes "MOD") ((raw (negsuc 7499999999)) ∷ (number 3) ∷ []) ≡ Number (pos 1500000000)
unfolding function_value
what_is_left_has_the_sign_of_the_divisor = refl

what_is_left_by_a_negative_divisor : gives (codes "MOD") ((number 5) ∷ (raw (negsuc 2999999999)) ∷ []) ≡ Number (negsuc 999999999)
unfolding function_value
what_is_left_by_a_negative_divisor = refl

nothing_is_left_by_zero : gives (codes "MOD") ((number 5) ∷ (number 0) ∷ []) ≡ Bad DivZero
unfolding function_value
nothing_is_left_by_zero = refl

a_quotient_is_cut_toward_zero : gives (codes "QUOTIENT") ((raw (negsuc 6999999999)) ∷ (number 2) ∷ []) ≡ Number (negsuc 2999999999)
unfolding function_value
a_quotient_is_cut_toward_zero = refl

no_quotient_by_zero : gives (codes "QUOTIENT") ((number 1) ∷ blank ∷ []) ≡ Bad DivZero
unfolding function_value
no_quotient_by_zero = refl

a_negative_power : gives (codes "POWER") ((number 2) ∷ (raw (negsuc 999999999)) ∷ []) ≡ Number (pos 500000000)
unfolding function_value repeated_product
a_negative_power = refl

a_broken_power : gives (codes "POWER") ((number 2) ∷ (raw (pos 500000000)) ∷ []) ≡ Bad BadNum
unfolding function_value
a_broken_power = refl

the_root_of_two : gives (codes "SQRT") ((number 2) ∷ []) ≡ Number (pos 1414213562)
unfolding function_value least
the_root_of_two = refl

no_root_of_a_negative : gives (codes "SQRT") ((raw (negsuc 999999999)) ∷ []) ≡ Bad BadNum
unfolding function_value
no_root_of_a_negative = refl

-- logical values
one_false_is_enough : gives (codes "AND") ((number 1) ∷ (number 0) ∷ []) ≡ whole 0
unfolding function_value numbers
one_false_is_enough = refl

texts_in_cells_are_passed_over : gives (codes "AND") ((cells 1 2 ((Words (codes "x")) ∷ (whole 2) ∷ [])) ∷ []) ≡ whole 1
unfolding function_value numbers
texts_in_cells_are_passed_over = refl

no_number_is_no_logical_value : gives (codes "AND") ((cells 1 1 ((Words (codes "x")) ∷ [])) ∷ []) ≡ Bad BadValue
unfolding function_value numbers
no_number_is_no_logical_value = refl

one_true_is_enough : gives (codes "OR") ((number 0) ∷ (cells 1 2 (Blank ∷ (whole 2) ∷ [])) ∷ []) ≡ whole 1
unfolding function_value numbers
one_true_is_enough = refl

blank_alone_is_no_logical_value : gives (codes "OR") (blank ∷ []) ≡ Bad BadValue
unfolding function_value numbers
blank_alone_is_no_logical_value = refl

the_first_error_of_a_list : gives (codes "OR") ((number 1) ∷ (words (codes "x")) ∷ (error NA) ∷ []) ≡ Bad BadValue
unfolding function_value numbers
the_first_error_of_a_list = refl

not_blank : gives (codes "NOT") (blank ∷ []) ≡ whole 1
unfolding function_value
not_blank = refl

not_of_a_text : gives (codes "NOT") ((words (codes "1")) ∷ []) ≡ Bad BadValue
unfolding function_value
not_of_a_text = refl

true_is_one : gives (codes "TRUE") ([]) ≡ whole 1
unfolding function_value
true_is_one = refl

true_takes_nothing : gives (codes "TRUE") ((number 1) ∷ []) ≡ Bad BadValue
unfolding function_value
true_takes_nothing = refl

false_is_zero : gives (codes "FALSE") ([]) ≡ whole 0
unfolding function_value
false_is_zero = refl

false_takes_nothing : gives (codes "FALSE") (blank ∷ []) ≡ Bad BadValue
unfolding function_value
false_takes_nothing = refl

not_available : gives (codes "NA") ([]) ≡ Bad NA
unfolding function_value
not_available = refl

not_available_takes_nothing : gives (codes "NA") ((number 1) ∷ []) ≡ Bad BadValue
unfolding function_value
not_available_takes_nothing = refl

the_other_value_does_not_count : gives (codes "IF") ((number 1) ∷ (number 5) ∷ (error Circular) ∷ []) ≡ whole 5
unfolding function_value
the_other_value_does_not_count = refl

without_another_value_it_is_zero : gives (codes "IF") ((number 0) ∷ (number 5) ∷ []) ≡ whole 0
unfolding function_value
without_another_value_it_is_zero = refl

a_value_may_be_blank : gives (codes "IF") ((number 1) ∷ blank ∷ []) ≡ Blank
unfolding function_value
a_value_may_be_blank = refl

a_text_decides_nothing : gives (codes "IF") ((words (codes "1")) ∷ (number 1) ∷ (number 2) ∷ []) ≡ Bad BadValue
unfolding function_value
a_text_decides_nothing = refl

in_place_of_an_error : gives (codes "IFERROR") ((error DivZero) ∷ (number 7) ∷ []) ≡ whole 7
unfolding function_value
in_place_of_an_error = refl

a_blank_value_is_no_error : gives (codes "IFERROR") (blank ∷ (number 7) ∷ []) ≡ Blank
unfolding function_value
a_blank_value_is_no_error = refl

-- kinds of values
a_circle_is_an_error : gives (codes "ISERROR") ((error Circular) ∷ []) ≡ whole 1
unfolding function_value
a_circle_is_an_error = refl

a_text_is_no_error : gives (codes "ISERROR") ((words (codes "#N/A")) ∷ []) ≡ whole 0
unfolding function_value
a_text_is_no_error = refl

a_value_that_is_not_available : gives (codes "ISNA") ((error NA) ∷ []) ≡ whole 1
unfolding function_value
a_value_that_is_not_available = refl

another_error_is_available : gives (codes "ISNA") ((error BadRef) ∷ []) ≡ whole 0
unfolding function_value
another_error_is_available = refl

a_number_is_one : gives (codes "ISNUMBER") ((number 0) ∷ []) ≡ whole 1
unfolding function_value
a_number_is_one = refl

digits_of_a_text_are_no_number : gives (codes "ISNUMBER") ((words (codes "1")) ∷ []) ≡ whole 0
unfolding function_value
digits_of_a_text_are_no_number = refl

the_empty_text_is_a_text : gives (codes "ISTEXT") ((words []) ∷ []) ≡ whole 1
unfolding function_value
the_empty_text_is_a_text = refl

blank_is_no_text : gives (codes "ISTEXT") (blank ∷ []) ≡ whole 0
unfolding function_value
blank_is_no_text = refl

blank_is_blank : gives (codes "ISBLANK") (blank ∷ []) ≡ whole 1
unfolding function_value
blank_is_blank = refl

the_empty_text_is_not_blank : gives (codes "ISBLANK") ((words []) ∷ []) ≡ whole 0
unfolding function_value
the_empty_text_is_not_blank = refl

-- texts: a character may have two bytes
characters_are_counted : gives (codes "LEN") ((words (codes "stra" ++ (195 ∷ 159 ∷ []) ++ codes "e")) ∷ []) ≡ whole 6
unfolding function_value chars encode
characters_are_counted = refl

the_characters_of_a_number : gives (codes "LEN") ((raw (negsuc 499999999)) ∷ []) ≡ whole 4
unfolding function_value chars encode digits last_digits
the_characters_of_a_number = refl

the_first_five_characters : gives (codes "LEFT") ((words (codes "stra" ++ (195 ∷ 159 ∷ []) ++ codes "e")) ∷ (number 5) ∷ []) ≡ Words (codes "stra" ++ (195 ∷ 159 ∷ []))
unfolding function_value chars encode
the_first_five_characters = refl

one_character_where_none_is_said : gives (codes "LEFT") ((words (codes "ab")) ∷ []) ≡ Words (codes "a")
unfolding function_value chars encode
one_character_where_none_is_said = refl

no_negative_count : gives (codes "LEFT") ((words (codes "ab")) ∷ (raw (negsuc 999999999)) ∷ []) ≡ Bad BadValue
unfolding function_value chars encode
no_negative_count = refl

the_last_two_characters : gives (codes "RIGHT") ((words (codes "stra" ++ (195 ∷ 159 ∷ []) ++ codes "e")) ∷ (number 2) ∷ []) ≡ Words ((195 ∷ 159 ∷ []) ++ codes "e")
unfolding function_value chars encode
the_last_two_characters = refl

all_characters_where_fewer_are_there : gives (codes "RIGHT") ((words (codes "ab")) ∷ (number 9) ∷ []) ≡ Words (codes "ab")
unfolding function_value chars encode
all_characters_where_fewer_are_there = refl

from_the_fifth_character_on : gives (codes "MID") ((words (codes "stra" ++ (195 ∷ 159 ∷ []) ++ codes "e")) ∷ (number 5) ∷ (number 2) ∷ []) ≡ Words ((195 ∷ 159 ∷ []) ++ codes "e")
unfolding function_value chars encode
from_the_fifth_character_on = refl

nothing_past_the_end : gives (codes "MID") ((words (codes "ab")) ∷ (number 3) ∷ (number 1) ∷ []) ≡ Words []
unfolding function_value chars encode
nothing_past_the_end = refl

characters_are_counted_from_one : gives (codes "MID") ((words (codes "ab")) ∷ (number 0) ∷ (number 1) ∷ []) ≡ Bad BadValue
unfolding function_value chars encode
characters_are_counted_from_one = refl

the_place_of_a_character : gives (codes "FIND") ((words ((195 ∷ 159 ∷ []))) ∷ (words (codes "stra" ++ (195 ∷ 159 ∷ []) ++ codes "e")) ∷ []) ≡ whole 5
unfolding function_value chars encode
the_place_of_a_character = refl

the_empty_text_stands_at_the_start : gives (codes "FIND") ((words []) ∷ (words (codes "ab")) ∷ (number 3) ∷ []) ≡ whole 3
unfolding function_value chars encode
the_empty_text_stands_at_the_start = refl

no_start_past_the_end : gives (codes "FIND") ((words []) ∷ (words (codes "ab")) ∷ (number 4) ∷ []) ≡ Bad BadValue
unfolding function_value chars encode
no_start_past_the_end = refl

the_start_is_cut : gives (codes "FIND") ((words (codes "a")) ∷ (words (codes "aba")) ∷ (raw (pos 2900000000)) ∷ []) ≡ whole 3
unfolding function_value chars encode
the_start_is_cut = refl

what_does_not_stand_there : gives (codes "FIND") ((words (codes "x")) ∷ (words (codes "ab")) ∷ []) ≡ Bad BadValue
unfolding function_value chars encode
what_does_not_stand_there = refl

a_text_twice : gives (codes "REPT") ((words (codes "ab")) ∷ (number 2) ∷ []) ≡ Words (codes "abab")
unfolding function_value
a_text_twice = refl

a_text_at_no_time : gives (codes "REPT") ((words (codes "ab")) ∷ (raw (pos 900000000)) ∷ []) ≡ Words []
unfolding function_value
a_text_at_no_time = refl

a_text_at_a_negative_number_of_times : gives (codes "REPT") ((words (codes "ab")) ∷ (raw (negsuc 999999999)) ∷ []) ≡ Bad BadValue
unfolding function_value
a_text_at_a_negative_number_of_times = refl

capitals_are_other_letters : gives (codes "EXACT") ((words (codes "a")) ∷ (words (codes "A")) ∷ []) ≡ whole 0
unfolding function_value
capitals_are_other_letters = refl

a_number_and_its_text : gives (codes "EXACT") ((number 1) ∷ (words (codes "1")) ∷ []) ≡ whole 1
unfolding function_value digits last_digits
a_number_and_its_text = refl

texts_are_joined : gives (codes "CONCATENATE") ((words (codes "a")) ∷ (number 1) ∷ blank ∷ []) ≡ Words (codes "a1")
unfolding function_value digits last_digits
texts_are_joined = refl

the_first_error_of_texts : gives (codes "CONCATENATE") ((words (codes "a")) ∷ (error NA) ∷ (error BadRef) ∷ []) ≡ Bad NA
unfolding function_value
the_first_error_of_texts = refl

a_text_that_is_a_number : gives (codes "VALUE") ((words (codes "1e3")) ∷ []) ≡ whole 1000
unfolding function_value
a_text_that_is_a_number = refl

a_text_that_is_too_large : gives (codes "VALUE") ((words (codes "1e18")) ∷ []) ≡ Bad Over
unfolding function_value
a_text_that_is_too_large = refl

a_text_that_is_no_number : gives (codes "VALUE") ((words (codes "1 000")) ∷ []) ≡ Bad BadValue
unfolding function_value
a_text_that_is_no_number = refl

blank_is_the_number_zero : gives (codes "VALUE") (blank ∷ []) ≡ whole 0
unfolding function_value
blank_is_the_number_zero = refl

-- lists
a_sum_is_tested_at_its_end : gives (codes "SUM") ((raw (pos (10 ^ 27 - 1))) ∷ (raw (pos (10 ^ 27 - 1))) ∷ (raw (neg_ℤ (pos (10 ^ 27 - 1)))) ∷ []) ≡ Number (pos (10 ^ 27 - 1))
unfolding function_value numbers
a_sum_is_tested_at_its_end = refl

texts_in_cells_are_no_terms : gives (codes "SUM") ((cells 4 1 ((whole 10) ∷ (whole 3) ∷ (Number (negsuc 7499999999)) ∷ (Words (codes "x")) ∷ [])) ∷ []) ≡ Number (pos 5500000000)
unfolding function_value numbers
texts_in_cells_are_no_terms = refl

a_text_alone_is_no_term : gives (codes "SUM") ((number 1) ∷ (words (codes "1")) ∷ []) ≡ Bad BadValue
unfolding function_value numbers
a_text_alone_is_no_term = refl

a_mean_is_rounded : gives (codes "AVERAGE") ((raw (pos 1)) ∷ (raw (pos 1)) ∷ (number 0) ∷ []) ≡ Number (pos 1)
unfolding function_value numbers
a_mean_is_rounded = refl

no_mean_of_nothing : gives (codes "AVERAGE") (blank ∷ []) ≡ Bad DivZero
unfolding function_value numbers
no_mean_of_nothing = refl

the_least : gives (codes "MIN") ((number 3) ∷ (cells 1 2 ((Number (negsuc 7499999999)) ∷ (Words (codes "x")) ∷ [])) ∷ []) ≡ Number (negsuc 7499999999)
unfolding function_value numbers
the_least = refl

the_least_of_nothing : gives (codes "MIN") (blank ∷ []) ≡ whole 0
unfolding function_value numbers
the_least_of_nothing = refl

the_greatest_of_negatives : gives (codes "MAX") ((raw (negsuc 2999999999)) ∷ (raw (negsuc 1999999999)) ∷ []) ≡ Number (negsuc 1999999999)
unfolding function_value numbers
the_greatest_of_negatives = refl

the_greatest_of_texts : gives (codes "MAX") ((cells 1 1 ((Words (codes "9")) ∷ [])) ∷ []) ≡ whole 0
unfolding function_value numbers
the_greatest_of_texts = refl

a_product : gives (codes "PRODUCT") ((number 2) ∷ (raw (negsuc 3499999999)) ∷ []) ≡ Number (negsuc 6999999999)
unfolding function_value numbers
a_product = refl

the_product_of_nothing : gives (codes "PRODUCT") (blank ∷ []) ≡ whole 0
unfolding function_value numbers
the_product_of_nothing = refl

an_error_comes_before_the_range : gives (codes "PRODUCT") ((raw (pos (10 ^ 27 - 1))) ∷ (raw (pos (10 ^ 27 - 1))) ∷ (error NA) ∷ []) ≡ Bad NA
unfolding function_value numbers
an_error_comes_before_the_range = refl

numbers_are_counted : gives (codes "COUNT") ((words (codes "1")) ∷ (number 1) ∷ (error NA) ∷ blank ∷ []) ≡ whole 1
unfolding function_value values_of_list
numbers_are_counted = refl

numbers_of_cells_are_counted : gives (codes "COUNT") ((cells 2 2 ((whole 1) ∷ Blank ∷ (Words (codes "1")) ∷ (whole 2) ∷ [])) ∷ []) ≡ whole 2
unfolding function_value values_of_list
numbers_of_cells_are_counted = refl

values_are_counted : gives (codes "COUNTA") ((cells 4 1 ((whole 10) ∷ (whole 3) ∷ (Number (negsuc 7499999999)) ∷ (Words (codes "x")) ∷ [])) ∷ []) ≡ whole 4
unfolding function_value values_of_list
values_are_counted = refl

errors_are_values : gives (codes "COUNTA") ((error NA) ∷ blank ∷ []) ≡ whole 1
unfolding function_value values_of_list
errors_are_values = refl

cells_without_a_text : gives (codes "COUNTBLANK") ((cells 1 3 (Blank ∷ (Words []) ∷ (whole 0) ∷ [])) ∷ []) ≡ whole 2
unfolding function_value
cells_without_a_text = refl

a_value_is_no_area : gives (codes "COUNTBLANK") ((number 1) ∷ []) ≡ Bad BadValue
unfolding function_value
a_value_is_no_area = refl

-- criteria
others_than_a_number : gives (codes "COUNTIF") ((cells 1 4 ((whole 5) ∷ (whole 12) ∷ (Words (codes "x")) ∷ Blank ∷ [])) ∷ (words (codes "<>5")) ∷ []) ≡ whole 3
unfolding function_value
others_than_a_number = refl

the_empty_criterion_matches_blank_cells : gives (codes "COUNTIF") ((cells 1 3 (Blank ∷ (Words []) ∷ (whole 0) ∷ [])) ∷ (words []) ∷ []) ≡ whole 2
unfolding function_value
the_empty_criterion_matches_blank_cells = refl

a_blank_criterion_is_zero : gives (codes "COUNTIF") ((cells 1 3 (Blank ∷ (Words []) ∷ (whole 0) ∷ [])) ∷ blank ∷ []) ≡ whole 1
unfolding function_value
a_blank_criterion_is_zero = refl

the_criterion_is_an_error : gives (codes "COUNTIF") ((cells 1 4 ((whole 5) ∷ (whole 12) ∷ (Words (codes "x")) ∷ Blank ∷ [])) ∷ (error NA) ∷ []) ≡ Bad NA
unfolding function_value
the_criterion_is_an_error = refl

terms_above_six : gives (codes "SUMIF") ((cells 1 4 ((whole 5) ∷ (whole 12) ∷ (Words (codes "x")) ∷ Blank ∷ [])) ∷ (words (codes ">6")) ∷ []) ≡ whole 12
unfolding function_value
terms_above_six = refl

terms_beside_matches : gives (codes "SUMIF") ((cells 1 2 ((Words (codes "a")) ∷ (Words (codes "b")) ∷ [])) ∷ (words (codes "b")) ∷ (cells 1 2 (Bad NA ∷ (whole 3) ∷ [])) ∷ []) ≡ whole 3
unfolding function_value
terms_beside_matches = refl

areas_of_different_shape : gives (codes "SUMIF") ((cells 1 2 ((whole 1) ∷ (whole 1) ∷ [])) ∷ (number 1) ∷ (cells 2 1 ((whole 1) ∷ (whole 1) ∷ [])) ∷ []) ≡ Bad BadValue
unfolding function_value
areas_of_different_shape = refl

the_first_failure_of_parameters : gives (codes "SUMIF") ((cells 1 4 ((whole 5) ∷ (whole 12) ∷ (Words (codes "x")) ∷ Blank ∷ [])) ∷ (error NA) ∷ (number 1) ∷ []) ≡ Bad NA
unfolding function_value
the_first_failure_of_parameters = refl

-- areas
a_cell_of_a_table : gives (codes "INDEX") ((cells 2 2 ((Words (codes "reduced")) ∷ (Words (codes "standard")) ∷ (Number (pos 70000000)) ∷ (Number (pos 190000000)) ∷ [])) ∷ (number 1) ∷ (number 2) ∷ []) ≡ Number (pos 70000000)
unfolding function_value
a_cell_of_a_table = refl

a_single_number_is_a_column_in_a_row : gives (codes "INDEX") ((cells 3 1 ((whole 1) ∷ (whole 2) ∷ (whole 3) ∷ [])) ∷ (number 2) ∷ []) ≡ whole 2
unfolding function_value
a_single_number_is_a_column_in_a_row = refl

no_cell_outside : gives (codes "INDEX") ((cells 2 2 ((Words (codes "reduced")) ∷ (Words (codes "standard")) ∷ (Number (pos 70000000)) ∷ (Number (pos 190000000)) ∷ [])) ∷ (number 3) ∷ (number 1) ∷ []) ≡ Bad BadRef
unfolding function_value
no_cell_outside = refl

the_last_that_is_at_most : gives (codes "MATCH") ((number 9) ∷ (cells 1 2 ((whole 5) ∷ (whole 12) ∷ [])) ∷ []) ≡ whole 1
unfolding function_value
the_last_that_is_at_most = refl

none_behind_a_greater_one : gives (codes "MATCH") ((number 7) ∷ (cells 1 3 ((whole 5) ∷ (whole 9) ∷ (whole 6) ∷ [])) ∷ (number 1) ∷ []) ≡ whole 1
unfolding function_value
none_behind_a_greater_one = refl

the_last_of_equal_ones : gives (codes "MATCH") ((number 5) ∷ (cells 1 3 ((whole 5) ∷ (Words (codes "z")) ∷ (whole 5) ∷ [])) ∷ []) ≡ whole 3
unfolding function_value
the_last_of_equal_ones = refl

the_first_that_is_equal : gives (codes "MATCH") ((number 5) ∷ (cells 3 1 ((Words (codes "5")) ∷ (whole 5) ∷ (whole 5) ∷ [])) ∷ (raw (pos 900000000)) ∷ []) ≡ whole 2
unfolding function_value
the_first_that_is_equal = refl

the_last_that_is_at_least : gives (codes "MATCH") ((number 6) ∷ (cells 1 3 ((whole 9) ∷ (whole 6) ∷ (whole 5) ∷ [])) ∷ (raw (negsuc 999999999)) ∷ []) ≡ whole 2
unfolding function_value
the_last_that_is_at_least = refl

none_is_equal : gives (codes "MATCH") ((number 6) ∷ (cells 1 2 ((whole 5) ∷ (whole 7) ∷ [])) ∷ (number 0) ∷ []) ≡ Bad NA
unfolding function_value
none_is_equal = refl

several_rows_and_columns : gives (codes "MATCH") ((number 6) ∷ (cells 2 2 ((Words (codes "reduced")) ∷ (Words (codes "standard")) ∷ (Number (pos 70000000)) ∷ (Number (pos 190000000)) ∷ [])) ∷ []) ≡ Bad BadValue
unfolding function_value
several_rows_and_columns = refl

the_rate_of_a_tax : gives (codes "VLOOKUP") ((words (codes "standard")) ∷ (cells 2 2 ((Words (codes "reduced")) ∷ (Words (codes "standard")) ∷ (Number (pos 70000000)) ∷ (Number (pos 190000000)) ∷ [])) ∷ (number 2) ∷ (number 0) ∷ []) ≡ Number (pos 190000000)
unfolding function_value
the_rate_of_a_tax = refl

a_rate_in_ascending_order : gives (codes "VLOOKUP") ((words (codes "rz")) ∷ (cells 2 2 ((Words (codes "reduced")) ∷ (Words (codes "standard")) ∷ (Number (pos 70000000)) ∷ (Number (pos 190000000)) ∷ [])) ∷ (number 2) ∷ []) ≡ Number (pos 70000000)
unfolding function_value
a_rate_in_ascending_order = refl

a_column_above_the_table : gives (codes "VLOOKUP") ((words (codes "none")) ∷ (cells 2 2 ((Words (codes "reduced")) ∷ (Words (codes "standard")) ∷ (Number (pos 70000000)) ∷ (Number (pos 190000000)) ∷ [])) ∷ (number 3) ∷ (number 0) ∷ []) ≡ Bad BadRef
unfolding function_value
a_column_above_the_table = refl

a_column_below_the_table : gives (codes "VLOOKUP") ((words (codes "none")) ∷ (cells 2 2 ((Words (codes "reduced")) ∷ (Words (codes "standard")) ∷ (Number (pos 70000000)) ∷ (Number (pos 190000000)) ∷ [])) ∷ (number 0) ∷ (number 0) ∷ []) ≡ Bad BadValue
unfolding function_value
a_column_below_the_table = refl

a_row_is_looked_up : gives (codes "HLOOKUP") ((raw (pos 100000000)) ∷ (cells 3 2 ((whole 0) ∷ (Words (codes "a")) ∷ (Number (pos 100000000)) ∷ (Words (codes "b")) ∷ (Number (pos 200000000)) ∷ (Words (codes "c")) ∷ [])) ∷ (number 2) ∷ []) ≡ Words (codes "b")
unfolding function_value
a_row_is_looked_up = refl

no_column_is_found : gives (codes "HLOOKUP") ((words (codes "x")) ∷ (cells 2 2 ((Words (codes "reduced")) ∷ (Words (codes "standard")) ∷ (Number (pos 70000000)) ∷ (Number (pos 190000000)) ∷ [])) ∷ (number 1) ∷ (number 0) ∷ []) ≡ Bad NA
unfolding function_value
no_column_is_found = refl

only_the_chosen_one_counts : gives (codes "CHOOSE") ((number 2) ∷ (error NA) ∷ (number 5) ∷ []) ≡ whole 5
unfolding function_value
only_the_chosen_one_counts = refl

no_choice : gives (codes "CHOOSE") ((number 3) ∷ (number 4) ∷ (number 5) ∷ []) ≡ Bad BadValue
unfolding function_value
no_choice = refl

the_row_of_the_formula : gives (codes "ROW") ([]) ≡ whole 3
unfolding function_value
the_row_of_the_formula = refl

the_first_row_of_an_area : gives (codes "ROW") ((cells 2 2 ((Words (codes "reduced")) ∷ (Words (codes "standard")) ∷ (Number (pos 70000000)) ∷ (Number (pos 190000000)) ∷ [])) ∷ []) ≡ whole 1
unfolding function_value
the_first_row_of_an_area = refl

the_column_of_the_formula : gives (codes "COLUMN") ([]) ≡ whole 2
unfolding function_value
the_column_of_the_formula = refl

a_value_has_no_column : gives (codes "COLUMN") ((number 1) ∷ []) ≡ Bad BadValue
unfolding function_value
a_value_has_no_column = refl

how_many_rows : gives (codes "ROWS") ((cells 3 1 ((whole 1) ∷ (whole 2) ∷ (whole 3) ∷ [])) ∷ []) ≡ whole 1
unfolding function_value
how_many_rows = refl

a_value_has_no_rows : gives (codes "ROWS") ((words (codes "A1")) ∷ []) ≡ Bad BadValue
unfolding function_value
a_value_has_no_rows = refl

how_many_columns : gives (codes "COLUMNS") ((cells 3 1 ((whole 1) ∷ (whole 2) ∷ (whole 3) ∷ [])) ∷ []) ≡ whole 3
unfolding function_value
how_many_columns = refl

the_error_in_place_of_an_area : gives (codes "COLUMNS") ((error BadRef) ∷ []) ≡ Bad BadRef
unfolding function_value
the_error_in_place_of_an_area = refl

-- names and numbers of parameters come first
no_such_function : gives (codes "SIN") ((error NA) ∷ []) ≡ Bad BadName
unfolding function_value
no_such_function = refl

too_many_parameters : gives (codes "ABS") ((error NA) ∷ (number 1) ∷ []) ≡ Bad BadValue
unfolding function_value
too_many_parameters = refl
