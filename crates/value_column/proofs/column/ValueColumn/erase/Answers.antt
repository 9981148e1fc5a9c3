use Rattle.std.proofs.Common.{◌-◌, ap, ◌∙◌, arith}
use Rattle.calc_addr.specs.declared.cell.TheConstants.{LAST_ROW}
use Rattle.calc_model.specs.declared.value.Value.TheVariants as value
use Rattle.run_tables.specs.Rows.{rows_erased}
use Rattle.value_column.specs.Rows.{column_of, value_at}
use Rattle.value_column.proofs.Spare.{past-end}
use Rattle.value_column.proofs.Tabs.{tab-closed}
use Rattle.value_column.proofs.column.ValueColumn.erase.Goals as goal

pub returns-clause-ok : goal.returns-clause-ok
unfolding column_of
returns-clause-ok c =
    tab-closed value.Blank LAST_ROW (value_at c.self.inside.lanes) (value_at c.close.new.self) (c.args.place - 1) c.args.count (omega (arith, c.requires.from, c.requires.to)) (λ r h. past-end c.self.inside.lanes r c.self.invariant h) c.close.ensures.rows
    ∙ ap (λ v. rows_erased (c.args.place - 1) c.args.count value.Blank v.values) c.self.view_is
