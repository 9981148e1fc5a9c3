use Rattle.std.proofs.Common.{◌≡◌, ℕ, ◌-◌, ◌<◌, ◌≤◌, false, length}
use Rattle.calc_addr.specs.Places.{covers}
use Rattle.dirty_spread.specs.Finding.{at}
use Rattle.dirty_spread.proofs.finding.next_of.Given as goal

abbrev pub invariant-loop-cell : goal.invariant-loop-cell
invariant-loop-cell l = record {
  from : l.from ≤ l.at;
  within : l.at ≤ length l.cells;
  none : (i : ℕ) → l.from ≤ i → i < l.at → covers l.area (at l.cells i) ≡ false;
}

abbrev pub decreases-loop-cell : goal.decreases-loop-cell
decreases-loop-cell l = length l.cells - l.at
