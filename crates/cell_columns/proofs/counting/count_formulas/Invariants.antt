use Rattle.std.proofs.Common.{◌≡◌, take}
use Rattle.cell_columns.specs.Walks.{formulas_by_blocks}
use Rattle.cell_columns.proofs.counting.count_formulas.Given as goal

abbrev pub invariant-loop-block : goal.invariant-loop-block
invariant-loop-block l = l.count ≡ formulas_by_blocks (take l.block-index l.fn.blocks)
