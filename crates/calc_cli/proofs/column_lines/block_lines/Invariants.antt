use Rattle.std.proofs.Common.{◌≡◌, ◌++◌, ℕ, List, drop}
use Rattle.std.specs.List.{flat_map}
use Rattle.block_column.specs.declared.block.Block.{Block}
use Rattle.calc_cli.specs.ColumnLines.{block_line}
use Rattle.calc_cli.proofs.column_lines.block_lines.Given as goal

-- the lines so far, and those of the blocks that are left
abbrev pub invariant-loop-block : goal.invariant-loop-block
invariant-loop-block l =
    let lines : List Block → List ℕ = λ blocks. flat_map (block_line l.fn.sheet l.fn.col) blocks in
    l.text.items ++ lines (drop l.block-index l.block-items) ≡ lines l.block-items
