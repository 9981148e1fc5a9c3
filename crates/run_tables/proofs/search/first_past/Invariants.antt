use Rattle.std.proofs.Common.{◌≡◌, ℕ, ◌+◌, ◌-◌, ◌≤◌, ◌<◌, length, map, slice_get, IfSome}
use Rattle.run_tables.proofs.search.first_past.Given as goal

abbrev pub invariant-loop-low : goal.invariant-loop-low
invariant-loop-low g l = record {
  order : l.low ≤ l.high;
  within : l.high ≤ length l.table;
  before : (j : ℕ) → l.low ≡ j + 1 → IfSome (slice_get (map g.P.Piece.run l.table) j) (λ r. r.first ≤ l.row);
  here : IfSome (slice_get (map g.P.Piece.run l.table) l.high) (λ r. l.row < r.first);
}

abbrev pub decreases-loop-low : goal.decreases-loop-low
decreases-loop-low g l = l.high - l.low
