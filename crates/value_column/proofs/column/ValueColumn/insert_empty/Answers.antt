use Rattle.std.proofs.Common.{◌-◌, ap, ◌∙◌, arith}
use Rattle.std.proofs.lemmas.Result.{on_ok_weaker, on_err_weaker}
use Rattle.calc_addr.specs.declared.cell.TheConstants.{LAST_ROW}
use Rattle.calc_model.specs.declared.value.Value.TheVariants as value
use Rattle.run_tables.specs.Rows.{rows_inserted}
use Rattle.value_column.specs.Rows.{column_of, value_at}
use Rattle.value_column.proofs.Tabs.{tab-opened, tab-same}
use Rattle.value_column.proofs.column.ValueColumn.insert_empty.Goals as goal

pub returns-clause-ok : goal.returns-clause-ok
unfolding column_of
returns-clause-ok c =
    on_ok_weaker c.open.result
    (λ h. tab-opened value.Blank LAST_ROW (value_at c.self.inside.lanes) (value_at c.open.new.self) (c.args.place - 1) c.args.count (omega (arith, c.requires.from, c.requires.to)) h
    ∙ ap (λ v. rows_inserted (c.args.place - 1) c.args.count value.Blank v.values) c.self.view_is) c.open.ensures.ok

pub returns-clause-err : goal.returns-clause-err
unfolding column_of
returns-clause-err c =
    on_err_weaker c.open.result (λ h. tab-same value.Blank LAST_ROW (value_at c.self.inside.lanes) (value_at c.open.new.self) h ∙ ap (λ v. v.values) c.self.view_is) c.open.ensures.err
