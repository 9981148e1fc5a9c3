use Rattle.std.proofs.Common.{◌≡◌, ◌<◌, ◌≤◌}
use Rattle.paged_list.specs.Pages.{KeepsShape, put_behind}
use Rattle.paged_list.proofs.through.push_through.Given as goal

abbrev pub invariant-loop-k : goal.invariant-loop-k
invariant-loop-k g l = record {
  items : put_behind l.pages l.k l.at l.item ≡ put_behind l.fn.pages l.first l.fn.at l.fn.item;
  shape : KeepsShape l.fn.pages l.pages;
  at : l.at ≤ l.fn.at;
  turned : l.first < l.k → l.at ≡ 0;
  from : l.first ≤ l.k;
}
