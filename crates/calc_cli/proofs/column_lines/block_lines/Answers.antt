use Rattle.std.proofs.Common.{◌≡◌, ◌++◌, ℕ, List, refl}
use Rattle.std.specs.List.{flat_map}
use Rattle.block_column.specs.declared.block.Block.{Block}
use Rattle.cell_columns.specs.ColumnRuns.{rows_of_block}
use Rattle.calc_cli.specs.ColumnLines.{block_line}
use Rattle.calc_cli.proofs.ColumnNumbers.{lies_at, put_line}
use Rattle.calc_cli.proofs.column_lines.block_lines.Goals as goal

pub push_block-requires : goal.push_block-requires
push_block-requires c =
    lies_at (rows_of_block c.args.sheet c.args.col) c.blocks-block-items.result.now c.loop-block.block-index _ c.blocks-block-items.ensures.rows c.loop-block-test.true

pub loop-block-preserved : goal.loop-block-preserved
loop-block-preserved c =
    let items = c.blocks-block-items.result.now in
    let lines : List Block → List ℕ = λ blocks. flat_map (block_line c.args.sheet c.args.col) blocks in
    put_line lines (block_line c.args.sheet c.args.col) (λ b blocks. refl) items c.loop-block.block-index _ c.loop-block.text.items c.push_block.new.text.items (lines items) c.loop-block-test.true
    c.in_ok-push_block.ensures
    c.loop-block.invariant
