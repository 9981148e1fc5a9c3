use Rattle.std.proofs.Common.{◌-◌, ap, sym, ◌∙◌, length, arith}
use Rattle.std.proofs.lemmas.List.FromFn.{length-map-range_with_len}
use Rattle.std.proofs.Math.ListN.{set}
use Rattle.std.proofs.lemmas.Result.{on_err_weaker}
use Rattle.calc_addr.specs.declared.cell.TheConstants.{LAST_ROW}
use Rattle.calc_model.specs.declared.value.Value.TheVariants as value
use Rattle.value_column.specs.Rows.{column_of, value_at}
use Rattle.value_column.proofs.Spare.{on-both}
use Rattle.value_column.proofs.Tabs.{tab-set, tab-same}
use Rattle.value_column.proofs.column.ValueColumn.set.Goals as goal

pub returns-clause-ok : goal.returns-clause-ok
unfolding column_of
returns-clause-ok c =
    on-both c.put.result c.put.ensures.at c.put.ensures.other
    (λ at other.
    tab-set value.Blank LAST_ROW (value_at c.self.inside.lanes) (value_at c.put.new.self) (c.args.row - 1) c.args.value (omega (arith, c.requires.from, c.requires.to)) (at ∙ c.of-item.ensures.value) other
    ∙ ap (λ v. set v.values (c.args.row - 1) c.args.value) c.self.view_is)

pub returns-clause-err : goal.returns-clause-err
unfolding column_of
returns-clause-err c =
    on_err_weaker c.put.result (λ h. tab-same value.Blank LAST_ROW (value_at c.self.inside.lanes) (value_at c.put.new.self) h ∙ ap (λ v. v.values) c.self.view_is) c.put.ensures.err

pub returns-clause-rows : goal.returns-clause-rows
unfolding column_of
returns-clause-rows c = ap (λ v. length v.values) (sym c.self.view_is) ∙ length-map-range_with_len (value_at c.self.inside.lanes) 0 LAST_ROW
