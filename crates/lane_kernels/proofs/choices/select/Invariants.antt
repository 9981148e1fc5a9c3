use Rattle.std.proofs.Common.{◌≡◌, ℕ, pos, ◌<◌, get_or}
use Rattle.lane_kernels.specs.Comparisons.{chosen}
use Rattle.lane_kernels.proofs.choices.select.Given as goal

abbrev pub invariant-loop-i : goal.invariant-loop-i
invariant-loop-i l = (k : ℕ) → k < l.i →
    get_or l.out k (pos 0) ≡ chosen (get_or l.mask k (pos 0)) (get_or l.a k (pos 0), get_or l.b k (pos 0))
