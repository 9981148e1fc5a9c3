use Rattle.std.proofs.Common.{◌≡◌, ◌≤◌, ◌<◌, ◌+◌, ℕ, length, get_or}
use Rattle.paged_list.proofs.list.PagedList.move_down.Given as goal

abbrev pub invariant-loop-k : goal.invariant-loop-k
invariant-loop-k g l = record {
  len : length l.self.items ≡ length l.fn.self.items;
  front : (i : ℕ) (d : g.row.T.Denot) → i < l.low → get_or l.self.items i d ≡ get_or l.fn.self.items i d;
  moved : (i : ℕ) (d : g.row.T.Denot) → l.low ≤ i → i + l.count < l.k → get_or l.self.items i d ≡ get_or l.fn.self.items (i + l.count) d;
  rest : (i : ℕ) (d : g.row.T.Denot) → l.k ≤ i → get_or l.self.items i d ≡ get_or l.fn.self.items i d;
  room : l.self.room ≡ l.fn.self.room;
}
