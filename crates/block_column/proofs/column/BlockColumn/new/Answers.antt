use Rattle.block_column.proofs.Columns.{none-left}
use Rattle.block_column.proofs.column.BlockColumn.new.Goals as goal

pub invariant_of-result : goal.invariant_of-result
invariant_of-result c = (none-left c.in_ok-table.table c.in_ok-table.ensures).column

pub returns : goal.returns
returns c = (none-left c.in_ok-table.table c.in_ok-table.ensures).slots
