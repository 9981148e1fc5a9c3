use Rattle.std.proofs.Common.{◌≡◌, ◌≤◌, ◌++◌, ◌+◌, replicate}
use Rattle.paged_list.proofs.list.PagedList.lengthen.Given as goal

abbrev pub invariant-loop : goal.invariant-loop
invariant-loop g l = record {
  items : l.self.items ≡ l.fn.self.items ++ replicate l.counter g.T.Plain.plain;
  room : l.fn.self.room ≤ l.self.room + l.counter;
}
