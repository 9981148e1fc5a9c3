use Rattle.std.proofs.Common.{◌≡◌, take}
use Rattle.cell_columns.specs.Walks.{filled_among}
use Rattle.cell_columns.proofs.counting.count_rows.Given as goal

abbrev pub invariant-loop-block : goal.invariant-loop-block
invariant-loop-block l = l.count ≡ filled_among l.fn.first l.fn.last (take l.block-index l.fn.blocks)
