use Rattle.std.proofs.Common.{◌≡◌, ◌≤◌, ◌++◌, ◌+◌, take, drop, replicate, vec_len}
use Rattle.paged_list.proofs.list.PagedList.insert_all.Given as goal

abbrev pub invariant-loop-item : goal.invariant-loop-item
invariant-loop-item g l = record {
  items : l.self.items ≡ take l.at l.fn.self.items ++ (replicate (vec_len l.more) g.T.Plain.plain ++ (drop (vec_len l.more) l.fn.more.items ++ drop l.at l.fn.self.items));
  more : l.more.items ≡ take (vec_len l.more) l.fn.more.items;
  place : l.place ≡ l.at + vec_len l.more;
  fewer : vec_len l.more ≤ vec_len l.fn.more;
  room : l.fn.self.room ≤ l.self.room + vec_len l.fn.more;
}

abbrev pub decreases-loop-item : goal.decreases-loop-item
decreases-loop-item g l = vec_len l.more
