-- The lines that are printed of a column: for each of its groups the rows, and for each of its blocks the rows and the
-- kind, downwards.
use Rattle.std.specs.Prelude.{ℕ, List, ◌++◌, map, codes}
use Rattle.std.specs.List.{flat_map}
use Rattle.calc_addr.specs.Addresses.{printed_rows}
use Rattle.calc_addr.specs.Places.{Rows}
use Rattle.calc_model.specs.Books.{Book}
use Rattle.block_column.specs.declared.block.Block.{Block}
use Rattle.block_column.specs.Kinds.{kind_text}
use Rattle.cell_columns.specs.ColumnRuns.{blocks_in, groups_in, rows_of_block, rows_of_run}

-- as `B1:B6`
abbrev pub group_line : Rows → List ℕ
group_line rows = printed_rows rows ++ codes "\n"

-- as `B1:B6 formula`
abbrev pub block_line : ℕ → ℕ → Block → List ℕ
block_line sheet col block = printed_rows (rows_of_block sheet col block) ++ codes " " ++ kind_text block.kind ++ codes "\n"

unfoldable pub groups_text : Book → ℕ → ℕ → List ℕ
groups_text book sheet col = flat_map group_line (map (rows_of_run sheet col) (groups_in book sheet col))

unfoldable pub blocks_text : Book → ℕ → ℕ → List ℕ
blocks_text book sheet col = flat_map (block_line sheet col) (blocks_in book sheet col)
