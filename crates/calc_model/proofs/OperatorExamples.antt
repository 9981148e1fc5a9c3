-- Worked examples of coercions, comparison and operators.
use Rattle.std.proofs.Common.{◌≡◌, ℕ, pos, negsuc, ◌-◌, ◌*◌, ◌^◌, true, false, [], ◌∷◌, codes, refl, Ok, Err}
use Rattle.std.specs.declared.cmp.Ordering.TheVariants.{Less, Greater}
use Rattle.std.specs.Fmt.{digits}
use Rattle.calc_num.specs.Decimals.{repeated_product}
use Rattle.calc_num.specs.Numbers.{last_digits}
use Rattle.calc_model.specs.declared.fault.Fault.TheVariants.{NA, DivZero, BadValue, BadNum, Over}
use Rattle.calc_model.specs.declared.tree.Op.TheVariants.{Pow, Mul, Div, Add, Sub, Cat, Eq, Ne, Lt, Gt, Ge}
use Rattle.calc_model.specs.declared.value.Value.{Value}
use Rattle.calc_model.specs.declared.value.Value.TheVariants.{Number, Words, Bad, Blank}
use Rattle.calc_model.specs.Operators.{binary, hundredth, negated}
use Rattle.calc_model.specs.Scalars.{compared, number_of, truth_of}

abbrev whole : ℕ → Value
whole n = Number (pos (n * 10 ^ 9))

abbrev words : ℕ → Value
words letter = Words (letter ∷ [])

-- the first error is the result, and the left operand's comes first
left_error_first : binary Add (Bad NA) (Bad DivZero) ≡ Bad NA
left_error_first = refl

left_text_before_right_error : binary Mul (Words (codes "x")) (Bad NA) ≡ Bad BadValue
left_text_before_right_error = refl

right_error : binary Sub (whole 1) (Bad NA) ≡ Bad NA
right_error = refl

joined_right_error : binary Cat (Words (codes "a")) (Bad DivZero) ≡ Bad DivZero
joined_right_error = refl

compared_left_error : binary Lt (Bad NA) (Bad DivZero) ≡ Bad NA
compared_left_error = refl

compared_right_error : binary Ge Blank (Bad DivZero) ≡ Bad DivZero
compared_right_error = refl

-- blank operands
blank_is_zero : binary Add Blank (whole 2) ≡ whole 2
blank_is_zero = refl

blank_has_no_letters : binary Cat Blank (Words (codes "b")) ≡ Words (codes "b")
blank_has_no_letters = refl

two_blanks_are_equal : binary Eq Blank Blank ≡ whole 1
two_blanks_are_equal = refl

blank_is_the_empty_text : binary Eq Blank (Words []) ≡ whole 1
blank_is_the_empty_text = refl

blank_is_the_number_zero : binary Eq (whole 0) Blank ≡ whole 1
blank_is_the_number_zero = refl

blank_is_before_a_text : compared Blank (Words (codes "a")) ≡ Ok Less
blank_is_before_a_text = refl

blank_is_behind_a_negative : compared Blank (Number (negsuc 0)) ≡ Ok Greater
blank_is_behind_a_negative = refl

-- texts and numbers
texts_by_bytes : binary Lt (Words (codes "a")) (Words (codes "B")) ≡ whole 0
texts_by_bytes = refl

capitals_first : binary Lt (Words (codes "A")) (Words (codes "B")) ≡ whole 1
capitals_first = refl

number_before_text : binary Gt (whole 9) (Words []) ≡ whole 0
number_before_text = refl

text_behind_number : compared (Words []) (whole 9) ≡ Ok Greater
text_behind_number = refl

a_text_that_looks_like_a_number_is_none : binary Ne (Words (codes "1")) (whole 1) ≡ whole 1
a_text_that_looks_like_a_number_is_none = refl

a_text_is_no_number : number_of (Words (codes "1")) ≡ Err BadValue
a_text_is_no_number = refl

the_empty_text_is_no_number : negated (Words []) ≡ Bad BadValue
the_empty_text_is_no_number = refl

a_half_is_true : truth_of (Number (pos 500000000)) ≡ Ok true
a_half_is_true = refl

blank_is_false : truth_of Blank ≡ Ok false
blank_is_false = refl

a_text_is_not_true : truth_of (Words (codes "1")) ≡ Err BadValue
a_text_is_not_true = refl

a_number_is_joined_as_printed : binary Cat (whole 3) (Number (negsuc 499999999)) ≡ Words (codes "3-0.5")
unfolding digits last_digits
a_number_is_joined_as_printed = refl

-- decimals
quotients_are_rounded : binary Div (whole 2) (whole 3) ≡ Number (pos 666666667)
quotients_are_rounded = refl

halves_go_away_from_zero : binary Mul (Number (negsuc 0)) (Number (pos 500000000)) ≡ Number (negsuc 0)
halves_go_away_from_zero = refl

no_division_by_zero : binary Div (whole 0) Blank ≡ Bad DivZero
no_division_by_zero = refl

the_largest_has_no_next : binary Add (Number (pos (10 ^ 27 - 1))) (Number (pos 1)) ≡ Bad Over
the_largest_has_no_next = refl

zero_to_zero : binary Pow (whole 0) (whole 0) ≡ whole 1
unfolding repeated_product
zero_to_zero = refl

two_to_minus_one : binary Pow (whole 2) (Number (negsuc 999999999)) ≡ Number (pos 500000000)
unfolding repeated_product
two_to_minus_one = refl

zero_to_minus_one : binary Pow (whole 0) (Number (negsuc 999999999)) ≡ Bad DivZero
unfolding repeated_product
zero_to_minus_one = refl

squares_are_rounded : binary Pow (Number (pos 1500000000)) (whole 2) ≡ Number (pos 2250000000)
unfolding repeated_product
squares_are_rounded = refl

a_broken_exponent : binary Pow (whole 4) (Number (pos 500000000)) ≡ Bad BadNum
a_broken_exponent = refl

an_exponent_too_large : binary Pow (whole 1) (whole 1025) ≡ Bad BadNum
an_exponent_too_large = refl

a_hundredth_of_an_odd_last_place : hundredth (Number (pos 50)) ≡ Number (pos 1)
a_hundredth_of_an_odd_last_place = refl

a_hundredth_below_half : hundredth (Number (negsuc 48)) ≡ Number (pos 0)
a_hundredth_below_half = refl

the_negative_of_an_error : negated (Bad NA) ≡ Bad NA
the_negative_of_an_error = refl
