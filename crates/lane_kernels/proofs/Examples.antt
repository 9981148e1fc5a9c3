-- What the definitions give at small lists and at the ends of 64 bits.
use Rattle.std.proofs.Common.{◌≡◌, ℤ, pos, negsuc, ◌^◌, ◌-◌, true, false, [], ◌∷◌, Some, None, refl}
use Rattle.calc_model.specs.declared.tree.Op.TheVariants.{Lt, Le}
use Rattle.lane_kernels.specs.Folds.{total, least, greatest, window_totals}
use Rattle.lane_kernels.specs.Comparisons.{count_of, truths, selected}
use Rattle.lane_kernels.specs.Lanes.{is_i64, sums, differences, first_crossing}

abbrev last : ℤ
last = pos (2 ^ 63 - 1)

abbrev first : ℤ
first = negsuc (2 ^ 63 - 1)

the_last_is_one : is_i64 last ≡ true
the_last_is_one = refl

one_more_is_none : is_i64 (pos (2 ^ 63)) ≡ false
one_more_is_none = refl

the_first_is_one : is_i64 first ≡ true
the_first_is_one = refl

one_less_is_none : is_i64 (negsuc (2 ^ 63)) ≡ false
one_less_is_none = refl

-- the first lane crosses, and the second is named by nobody
both_ends : first_crossing (sums (last ∷ first ∷ []) (pos 1 ∷ negsuc 0 ∷ [])) ≡ Some 0
both_ends = refl

the_second_lane : first_crossing (differences (pos 1 ∷ first ∷ []) (pos 2 ∷ pos 1 ∷ [])) ≡ Some 1
the_second_lane = refl

no_lane : first_crossing (sums (last ∷ first ∷ []) (pos 0 ∷ last ∷ [])) ≡ None
no_lane = refl

past_64_bits : total (last ∷ pos 1 ∷ first ∷ last ∷ pos 1 ∷ []) ≡ pos (2 ^ 63)
past_64_bits = refl

least_of_ends : least (pos 1 ∷ first ∷ last ∷ []) ≡ Some first
least_of_ends = refl

greatest_of_none : greatest [] ≡ None
greatest_of_none = refl

below_one : count_of Lt (pos 1) (pos 1 ∷ first ∷ pos 0 ∷ []) ≡ 2
below_one = refl

up_to : truths Le (pos 1 ∷ pos 2 ∷ []) (pos 1 ∷ pos 1 ∷ []) ≡ pos 1000000000 ∷ pos 0 ∷ []
up_to = refl

selected_by_any : selected (pos 0 ∷ negsuc 4 ∷ []) (pos 1 ∷ pos 2 ∷ []) (pos 3 ∷ pos 4 ∷ []) ≡ pos 3 ∷ pos 2 ∷ []
selected_by_any = refl

windows_of_two : window_totals (last ∷ last ∷ first ∷ []) 2 ≡ pos (2 ^ 64 - 2) ∷ negsuc 0 ∷ []
windows_of_two = refl

window_of_all : window_totals (pos 1 ∷ pos 2 ∷ []) 3 ≡ []
window_of_all = refl
