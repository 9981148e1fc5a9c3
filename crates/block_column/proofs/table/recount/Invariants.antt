use Rattle.std.proofs.Common.{◌≡◌, ◌+◌, ◌++◌, map, drop, vec_len}
use Rattle.std.specs.Vec.{vec_capacity}
use Rattle.run_tables.specs.Runs.{Rises}
use Rattle.block_column.specs.Counting.{no_items, total}
use Rattle.block_column.specs.Blocks.{block_run, counts_from}
use Rattle.block_column.proofs.table.recount.Given as goal

abbrev pub invariant-loop-block : goal.invariant-loop-block
invariant-loop-block l = record {
  items : l.counts.items ++ counts_from l.here (drop l.block-index l.blocks) ≡ counts_from no_items l.blocks;
  len : vec_len l.counts ≡ l.block-index;
  capacity : vec_capacity l.counts ≡ vec_capacity l.fn.counts;
  in_order : Rises (total l.here + 1) (map block_run (drop l.block-index l.blocks));
}
