use Rattle.std.proofs.Common.{◌≡◌, ◌≤◌, ◌++◌, ◌+◌, take, drop}
use Rattle.paged_list.proofs.list.PagedList.cut.Given as goal

abbrev pub invariant-loop : goal.invariant-loop
invariant-loop g l = record {
  items : l.self.items ≡ take l.end l.initial.self.items ++ drop l.initial.end l.initial.self.items;
  end : l.end + l.counter ≡ l.initial.end;
  room : l.fn.self.room ≤ l.self.room;
}
