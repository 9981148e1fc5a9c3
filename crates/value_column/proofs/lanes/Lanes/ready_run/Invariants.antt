use Rattle.std.proofs.Common.{◌≡◌, ℕ, ◌+◌}
use Rattle.value_column.specs.Rows.{AreLanes, AreReady, value_at}
use Rattle.value_column.proofs.lanes.Lanes.ready_run.Given as goal

abbrev pub invariant-loop-value : goal.invariant-loop-value
invariant-loop-value l = record {
  lanes : AreLanes l.self;
  row : l.row ≡ l.from + l.value-index;
  same : (r : ℕ) → value_at l.self r ≡ value_at l.fn.self r;
  ready : AreReady l.self l.from l.values l.value-index;
}
