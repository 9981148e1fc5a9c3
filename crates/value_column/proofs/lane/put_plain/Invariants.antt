use Rattle.std.proofs.Common.{◌≡◌, ◌+◌, ◌++◌, replicate, vec_len}
use Rattle.std.specs.Vec.{vec_capacity}
use Rattle.value_column.proofs.lane.put_plain.Given as goal

abbrev pub invariant-loop : goal.invariant-loop
invariant-loop g l = record {
  items : l.lane.items ≡ l.fn.lane.items ++ replicate l.counter g.T.Plain.plain;
  len : vec_len l.lane ≡ vec_len l.fn.lane + l.counter;
  capacity : vec_capacity l.lane ≡ vec_capacity l.fn.lane;
}
