-- What an operator makes of two numbers, and of two lists lane by lane.
use Rattle.std.specs.Prelude.{◌≡◌, ℤ, ◌+ℤ◌, ◌-ℤ◌, Bool, true, not, List}
use Rattle.lane_kernels.specs.declared.arithmetic.Sign.{Sign}
use Rattle.lane_kernels.specs.declared.arithmetic.Sign.TheVariants.{Plus, Minus}
use Rattle.lane_kernels.specs.Lanes.{is_i64}
use lib.Lanes.{zip2}

abbrev pub exact : Sign → ℤ → ℤ → ℤ
exact Plus left right = left +ℤ right
exact Minus left right = left -ℤ right

abbrev pub signed : Sign → List ℤ → List ℤ → List ℤ
signed sign = zip2 (exact sign)

-- the result is exact where it is a number of 64 bits, and tells where it isn't
abbrev pub WritesSigned : Sign → ℤ → ℤ → ℤ × Bool → Type 0
WritesSigned sign left right result =
    (result.1 ≡ not (is_i64 (exact sign left right)))
    × (is_i64 (exact sign left right) ≡ true → result.0 ≡ exact sign left right)
