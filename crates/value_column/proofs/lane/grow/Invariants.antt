use Rattle.std.proofs.Common.{◌≡◌, ◌-◌, ◌≤◌, ◌++◌, replicate, vec_len}
use Rattle.std.specs.Vec.{vec_capacity}
use Rattle.value_column.proofs.lane.grow.Given as goal

abbrev pub invariant-loop : goal.invariant-loop
invariant-loop g l = record {
  items : l.lane.items ≡ l.fn.lane.items ++ replicate (l.counter - l.have) g.T.Plain.plain;
  len : vec_len l.lane ≡ l.counter;
  from : l.have ≤ l.counter;
  room : l.len ≤ vec_capacity l.lane;
  capacity : vec_capacity l.fn.lane ≤ vec_capacity l.lane;
}
