-- What two lists of one length give lane by lane, and the first lane whose exact result leaves 64 bits.
use Rattle.std.specs.Prelude.{◌≡◌, take, ℕ, ℤ, pos, neg_ℤ, ◌+ℤ◌, ◌-ℤ◌, ◌^◌, ◌&&◌, Bool, not, List, Option, Some, None, Result, Ok, Err, int_le, int_lt, position}
use Rattle.lane_kernels.specs.declared.arithmetic.Crossed.{Crossed}
use lib.Lanes.{zip2}

abbrev pub sums : List ℤ → List ℤ → List ℤ
sums = zip2 ◌+ℤ◌

abbrev pub differences : List ℤ → List ℤ → List ℤ
differences = zip2 ◌-ℤ◌

-- the number is one of 64 bits
abbrev pub is_i64 : ℤ → Bool
is_i64 number = int_le (neg_ℤ (pos (2 ^ 63))) number && int_lt number (pos (2 ^ 63))

-- the first lane whose exact result is no number of 64 bits
abbrev pub first_crossing : List ℤ → Option ℕ
first_crossing exact = position (λ number. not (is_i64 number)) exact

-- the lane that an addition or a subtraction names
abbrev pub named_lane : Result Unit Crossed → Option ℕ
named_lane (Ok done) = None
named_lane (Err crossed) = Some crossed.lane

-- the lists have the same items before the lane
abbrev pub SameBelow : ℕ → List ℤ → List ℤ → Type 0
SameBelow lane xs ys = take lane xs ≡ take lane ys
