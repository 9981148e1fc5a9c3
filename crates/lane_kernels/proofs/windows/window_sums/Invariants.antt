-- The running sum is that of the next window but for its last item, and the sums of the windows passed are written.
use Rattle.std.proofs.Common.{◌≡◌, ℕ, pos, ◌+◌, ◌-◌, ◌*◌, ◌<◌, get_or}
use Rattle.lane_kernels.specs.Folds.{total, window, FitsLanes}
use Rattle.lane_kernels.proofs.windows.window_sums.Given as goal

abbrev pub invariant-loop-place : goal.invariant-loop-place
invariant-loop-place l = record {
  running : l.running ≡ total (window l.items (l.width - 1) l.place);
  range : FitsLanes (l.width + 2 * l.place) l.running;
  written : (k : ℕ) → k < l.place → get_or l.out k (pos 0) ≡ total (window l.items l.width k);
}
