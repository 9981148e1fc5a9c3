use Rattle.std.proofs.Common.{◌≡◌, ◌≤◌, take, int_lt}
use Rattle.std.specs.List.{count_by}
use Rattle.lane_kernels.specs.Choosing.{is_wanted}
use Rattle.lane_kernels.proofs.folds.count_greater.Given as goal

abbrev pub invariant-loop-item : goal.invariant-loop-item
invariant-loop-item l = (l.count ≡ count_by (λ item. is_wanted l.wanted (int_lt l.with item)) (take l.item-index l.items)) × (l.count ≤ l.item-index)
