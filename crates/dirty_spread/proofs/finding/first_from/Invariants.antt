use Rattle.std.proofs.Common.{ℕ, ◌-◌, ◌<◌, ◌≤◌, length}
use Rattle.calc_addr.specs.Places.{IsBefore}
use Rattle.dirty_spread.specs.Finding.{at}
use Rattle.dirty_spread.proofs.finding.first_from.Given as goal

abbrev pub invariant-loop-low : goal.invariant-loop-low
invariant-loop-low l = record {
  order : l.low ≤ l.high;
  within : l.high ≤ length l.cells;
  before : (i : ℕ) → i < l.low → IsBefore (at l.cells i) l.cell;
  from : (i : ℕ) → l.high ≤ i → i < length l.cells → IsBefore (at l.cells i) l.cell → ⊥;
}

abbrev pub decreases-loop-low : goal.decreases-loop-low
decreases-loop-low l = l.high - l.low
