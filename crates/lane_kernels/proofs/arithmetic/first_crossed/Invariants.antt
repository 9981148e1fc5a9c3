use Rattle.std.proofs.Common.{◌≡◌, ℕ, pos, ◌<◌, true, get_or}
use Rattle.lane_kernels.specs.Lanes.{is_i64}
use Rattle.lane_kernels.specs.Signs.{exact}
use Rattle.lane_kernels.proofs.arithmetic.first_crossed.Given as goal

abbrev pub invariant-loop-lane : goal.invariant-loop-lane
invariant-loop-lane l =
    (k : ℕ) → k < l.lane → is_i64 (exact l.sign (get_or l.a k (pos 0)) (get_or l.b k (pos 0))) ≡ true
