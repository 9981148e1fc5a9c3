use Rattle.std.proofs.Common.{◌≡◌, ℕ, ◌+◌, ◌-◌, ◌≤◌, ◌<◌, length, slice_get, IfSome}
use Rattle.cell_runs.proofs.cells.first_above.Given as goal

abbrev pub invariant-loop-low : goal.invariant-loop-low
invariant-loop-low l = record {
  order : l.low ≤ l.high;
  within : l.high ≤ length l.numbers;
  before : (j : ℕ) → l.low ≡ j + 1 → IfSome (slice_get l.numbers j) (λ y. y ≤ l.number);
  here : IfSome (slice_get l.numbers l.high) (λ y. l.number < y);
}

abbrev pub decreases-loop-low : goal.decreases-loop-low
decreases-loop-low l = l.high - l.low
