use Rattle.std.proofs.Common.{◌≡◌, ◌∙◌, ◌<◌, List, [], length, map, ap, sym, subst, arith}
use Rattle.calc_model.specs.CellEdits.{CellEntries}
use Rattle.block_column.specs.declared.block.Block.{Block}
use Rattle.block_column.specs.Blocks.{blocks_of}
use Rattle.block_column.specs.SlotRows.{SlotRows}
use Rattle.cell_columns.specs.Cells.{cells_only, column_at}
use Rattle.cell_columns.specs.ColumnRuns.{AllLie, blocks_in, rows_of_block}
use Rattle.cell_columns.specs.Lent.{slots_of}
use Rattle.cell_columns.proofs.Downwards.{blocks_down, blocks_lie, column_of, full, seen_at}
use Rattle.cell_columns.proofs.Maps.{length_map}
use Rattle.cell_columns.proofs.columns.CellColumns.blocks.Goals as goal

-- the blocks are those of the column's slots
are_blocks : (c : goal.After-blocks-2) → c.blocks-2.result.now ≡ blocks_of (column_at (slots_of c.self.inside.columns.items) (column_of c.args.sheet c.args.col))
are_blocks c =
    let n = c.number_of.result in
    let columns = c.self.inside.columns.items in
    let among : n < length columns = omega (arith, c.number_of.ensures.among, c.self.invariant.sheets.all_columns, length_map (λ (s : SlotRows). s.slots) columns) in
    c.blocks-2.ensures
    ∙ ap blocks_of (seen_at (λ (s : SlotRows). s.slots) columns n c.index.result.now [] c.index.ensures among)
    ∙ ap (λ k. blocks_of (column_at (slots_of columns) k)) c.number_of.ensures.number

pub returns-clause-blocks : goal.returns-clause-blocks
returns-clause-blocks c =
    let Right : CellEntries → Type 0 = λ cells. c.blocks-2.result.now ≡ blocks_in (cells_only cells) c.args.sheet c.args.col in
    subst Right c.self.view_is (are_blocks c ∙ blocks_down c.self.inside.table (slots_of c.self.inside.columns.items) c.self.invariant.sheets c.args.sheet c.args.col c.requires)

pub returns-clause-rows : goal.returns-clause-rows
returns-clause-rows c =
    let columns = slots_of c.self.inside.columns.items in
    subst (λ (bs : List Block). AllLie (map (rows_of_block c.args.sheet c.args.col) bs)) (sym (are_blocks c))
    (blocks_lie c.args.sheet c.args.col c.requires (column_at columns (column_of c.args.sheet c.args.col)) (full c.self.inside.table columns c.self.invariant.sheets c.args.sheet c.args.col c.requires))
