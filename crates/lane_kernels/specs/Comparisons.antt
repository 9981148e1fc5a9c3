-- How two numbers compare, what a comparison writes for its truth, and what a mask selects.
use Rattle.std.specs.Prelude.{ℕ, ℤ, pos, Bool, true, false, not, int_lt, int_le, if◌then◌else◌, List}
use Rattle.std.specs.List.{count_by, zip}
use Rattle.std.specs.Ordering.{int_eq}
use Rattle.calc_model.specs.declared.tree.Op.{Op}
use Rattle.calc_model.specs.declared.tree.Op.TheVariants.{Eq, Ne, Lt, Le, Gt, Ge}
use Rattle.lane_kernels.specs.declared.TheConstants.{ONE}
use lib.Lanes.{zip2}

abbrev pub is_comparison : Op → Bool
is_comparison Eq = true
is_comparison Ne = true
is_comparison Lt = true
is_comparison Le = true
is_comparison Gt = true
is_comparison Ge = true
is_comparison _ = false

-- the comparison holds between the numbers; what is no comparison never holds
abbrev pub holds : Op → ℤ → ℤ → Bool
holds Eq left right = int_eq left right
holds Ne left right = not (int_eq left right)
holds Lt left right = int_lt left right
holds Le left right = int_le left right
holds Gt left right = int_lt right left
holds Ge left right = int_le right left
holds _ left right = false

-- how many items stand so to the number
abbrev pub count_of : Op → ℤ → List ℤ → ℕ
count_of op with items = count_by (λ item. holds op item with) items

-- the number that a formula shows for a truth
abbrev pub truth : Bool → ℤ
truth is = if is then ONE else pos 0

abbrev pub truths : Op → List ℤ → List ℤ → List ℤ
truths op = zip2 (λ left right. truth (holds op left right))

-- the first of the pair where the mask isn't 0
abbrev pub chosen : ℤ → ℤ × ℤ → ℤ
chosen mask pair = if int_eq mask (pos 0) then pair.1 else pair.0

abbrev pub selected : List ℤ → List ℤ → List ℤ → List ℤ
selected mask a b = zip2 chosen mask (zip a b)
