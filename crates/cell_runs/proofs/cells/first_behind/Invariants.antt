use Rattle.std.proofs.Common.{◌≡◌, ℕ, ◌+◌, ◌-◌, ◌≤◌, ◌<◌, length, map, slice_get, IfSome}
use Rattle.cell_runs.specs.CellLists.{first_number}
use Rattle.cell_runs.proofs.cells.first_behind.Given as goal

abbrev pub invariant-loop-low : goal.invariant-loop-low
invariant-loop-low l = record {
  order : l.low ≤ l.high;
  within : l.high ≤ length l.runs;
  before : (j : ℕ) → l.low ≡ j + 1 → IfSome (slice_get (map first_number l.runs) j) (λ y. y ≤ l.cell);
  here : IfSome (slice_get (map first_number l.runs) l.high) (λ y. l.cell < y);
}

abbrev pub decreases-loop-low : goal.decreases-loop-low
decreases-loop-low l = l.high - l.low
