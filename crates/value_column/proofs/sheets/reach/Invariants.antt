use Rattle.std.proofs.Common.{◌≡◌, ◌+◌, ◌-◌, ◌≤◌, ◌++◌, replicate, None, vec_len}
use Rattle.std.specs.Vec.{vec_capacity}
use Rattle.value_column.proofs.sheets.reach.Given as goal

abbrev pub invariant-loop : goal.invariant-loop
invariant-loop l = record {
  items : l.columns.items ≡ l.fn.columns.items ++ replicate (l.counter - l.have) None;
  len : vec_len l.columns ≡ l.counter;
  from : l.have ≤ l.counter;
  room : l.place + 1 ≤ vec_capacity l.columns;
}
