use Rattle.std.proofs.Common.{◌≡◌, ℕ, pos, true, ◌<◌, get_or}
use Rattle.value_column.specs.Rows.{is_small}
use Rattle.value_column.proofs.lanes.are_small.Given as goal

abbrev pub invariant-loop-k : goal.invariant-loop-k
invariant-loop-k l = record {
  small : (k : ℕ) → k < l.k → is_small (get_or l.items k (pos 0)) ≡ true;
}
