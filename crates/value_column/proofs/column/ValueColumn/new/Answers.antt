use Rattle.calc_addr.specs.declared.cell.TheConstants.{LAST_ROW}
use Rattle.calc_model.specs.declared.value.Value.TheVariants as value
use Rattle.value_column.specs.Rows.{column_of, value_at}
use Rattle.value_column.specs.ValueRows.{no_values}
use Rattle.value_column.proofs.Tabs.{tab-plain}
use Rattle.value_column.proofs.column.ValueColumn.new.Goals as goal

pub returns : goal.returns
unfolding column_of no_values
returns c = tab-plain value.Blank LAST_ROW (value_at c.new.result) c.new.ensures.blank
