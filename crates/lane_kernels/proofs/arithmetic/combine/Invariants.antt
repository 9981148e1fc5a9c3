-- While no lane has crossed, all fit; and a lane that fits holds its exact result.
use Rattle.std.proofs.Common.{◌≡◌, ℕ, pos, ◌<◌, true, false, get_or}
use Rattle.lane_kernels.specs.Lanes.{is_i64}
use Rattle.lane_kernels.specs.Signs.{exact}
use Rattle.lane_kernels.proofs.arithmetic.combine.Given as goal

abbrev pub invariant-loop-i : goal.invariant-loop-i
invariant-loop-i l = record {
  fits : l.crossed ≡ false → (k : ℕ) → k < l.i → is_i64 (exact l.sign (get_or l.a k (pos 0)) (get_or l.b k (pos 0))) ≡ true;
  exact : (k : ℕ) → k < l.i → is_i64 (exact l.sign (get_or l.a k (pos 0)) (get_or l.b k (pos 0))) ≡ true →
      get_or l.out k (pos 0) ≡ exact l.sign (get_or l.a k (pos 0)) (get_or l.b k (pos 0));
}
