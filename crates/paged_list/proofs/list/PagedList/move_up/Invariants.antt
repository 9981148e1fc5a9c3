use Rattle.std.proofs.Common.{◌≡◌, ◌≤◌, ◌<◌, ◌-◌, ◌+◌, ℕ, length, get_or}
use Rattle.paged_list.proofs.list.PagedList.move_up.Given as goal

abbrev pub invariant-loop-k : goal.invariant-loop-k
invariant-loop-k g l = record {
  len : length l.self.items ≡ length l.fn.self.items;
  front : (i : ℕ) (d : g.row.T.Denot) → i < l.k → get_or l.self.items i d ≡ get_or l.fn.self.items i d;
  gap : (i : ℕ) (d : g.row.T.Denot) → l.k ≤ i → i < l.k + l.count → get_or l.self.items i d ≡ g.T.Plain.plain;
  moved : (i : ℕ) (d : g.row.T.Denot) → l.k ≤ i → i < l.end → get_or l.self.items (i + l.count) d ≡ get_or l.fn.self.items i d;
  room : l.self.room ≡ l.fn.self.room;
  above : l.low ≤ l.k;
  below : l.k ≤ l.end;
  to : l.to ≡ l.k + l.count;
}

abbrev pub decreases-loop-k : goal.decreases-loop-k
decreases-loop-k g l = l.k - l.low
