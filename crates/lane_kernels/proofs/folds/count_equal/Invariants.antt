use Rattle.std.proofs.Common.{◌≡◌, ◌≤◌, take}
use Rattle.std.specs.List.{count_by}
use Rattle.std.specs.Ordering.{int_eq}
use Rattle.lane_kernels.specs.Choosing.{is_wanted}
use Rattle.lane_kernels.proofs.folds.count_equal.Given as goal

abbrev pub invariant-loop-item : goal.invariant-loop-item
invariant-loop-item l = (l.count ≡ count_by (λ item. is_wanted l.wanted (int_eq item l.with)) (take l.item-index l.items)) × (l.count ≤ l.item-index)
