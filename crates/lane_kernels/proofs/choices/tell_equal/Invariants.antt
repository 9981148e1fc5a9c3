use Rattle.std.proofs.Common.{◌≡◌, ℕ, pos, ◌<◌, get_or}
use Rattle.std.specs.Ordering.{int_eq}
use Rattle.lane_kernels.specs.Choosing.{truth_if}
use Rattle.lane_kernels.proofs.choices.tell_equal.Given as goal

abbrev pub invariant-loop-i : goal.invariant-loop-i
invariant-loop-i l = (k : ℕ) → k < l.i → get_or l.out k (pos 0) ≡ truth_if l.wanted (int_eq (get_or l.a k (pos 0)) (get_or l.b k (pos 0)))
