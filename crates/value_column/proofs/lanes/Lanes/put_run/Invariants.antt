use Rattle.std.proofs.Common.{◌≡◌, ◌≤◌, take, get_or, vec_len}
use Rattle.calc_model.specs.declared.value.Value.TheVariants as value
use Rattle.value_column.specs.Rows.{AreLanes, AreReady, value_at}
use Rattle.value_column.proofs.Written.{IsBelow}
use Rattle.value_column.proofs.lanes.Lanes.put_run.Given as goal

abbrev pub invariant-loop-value : goal.invariant-loop-value
invariant-loop-value l = record {
  lanes : AreLanes l.self;
  items : l.values.items ≡ take (vec_len l.values) l.fn.values.items;
  len : vec_len l.values ≤ vec_len l.fn.values;
  ready : AreReady l.self l.from l.fn.values.items (vec_len l.fn.values);
  rows : IsBelow l.from (vec_len l.values) (vec_len l.fn.values) (λ k. get_or l.fn.values.items k value.Blank) (value_at l.fn.self) (value_at l.self);
}

abbrev pub decreases-loop-value : goal.decreases-loop-value
decreases-loop-value l = vec_len l.values
