use Rattle.std.proofs.Common.{◌≡◌, ◌≤◌, ◌++◌, ◌+◌, take, drop, replicate}
use Rattle.paged_list.proofs.list.PagedList.spread.Given as goal

abbrev pub invariant-loop : goal.invariant-loop
invariant-loop g l = record {
  items : l.self.items ≡ take l.at l.fn.self.items ++ (replicate l.counter g.T.Plain.plain ++ drop l.at l.fn.self.items);
  room : l.fn.self.room ≤ l.self.room + l.counter;
}
