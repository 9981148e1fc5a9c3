-- The halves together are the sum so far, and each is small.
use Rattle.std.proofs.Common.{◌≡◌, ◌*◌, ◌^◌, ◌-◌, pos, neg_ℤ, ◌+ℤ◌, ◌*ℤ◌, ◌≤ℤ◌, take}
use Rattle.lane_kernels.specs.Folds.{total}
use Rattle.lane_kernels.proofs.folds.sum.Given as goal

abbrev pub invariant-loop-item : goal.invariant-loop-item
invariant-loop-item l = record {
  joined : l.high *ℤ pos (2 ^ 32) +ℤ l.low ≡ total (take l.item-index l.items);
  low : pos 0 ≤ℤ l.low;
  low_most : l.low ≤ℤ pos (l.item-index * (2 ^ 32 - 1));
  high : neg_ℤ (pos (l.item-index * 2 ^ 31)) ≤ℤ l.high;
  high_most : l.high ≤ℤ pos (l.item-index * (2 ^ 31 - 1));
}
