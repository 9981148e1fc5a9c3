use Rattle.std.proofs.Common.{◌-◌, ap, ◌∙◌, arith, map, pos, get_or, length}
use Rattle.std.proofs.lemmas.Result.{on_ok_weaker, on_err_weaker}
use Rattle.calc_addr.specs.declared.cell.TheConstants.{LAST_ROW}
use Rattle.calc_model.specs.declared.value.Value.TheVariants as value
use Rattle.value_column.specs.Rows.{column_of, value_at}
use Rattle.value_column.specs.ValueRows.{run_set}
use Rattle.std.proofs.lemmas.List.{length-map, get_or-map}
use Rattle.value_column.proofs.Tabs.{tab-written, tab-same}
use Rattle.value_column.proofs.column.ValueColumn.set_small.Goals as goal

pub returns-clause-ok : goal.returns-clause-ok
unfolding column_of
returns-clause-ok c =
    let items = c.args.items.now in
    on_ok_weaker c.put_small.result
    (λ h. tab-written value.Blank LAST_ROW (value_at c.self.inside.lanes) (value_at c.put_small.new.self) (λ k. value.Number (get_or items k (pos 0))) (map value.Number items) (c.args.first - 1) (length items) (length-map items value.Number)
    (omega (arith, c.requires.from, c.requires.to)) (λ k m. get_or-map value.Number items k (pos 0) value.Blank m) h
    ∙ ap (λ v. run_set (c.args.first - 1) (map value.Number items) v.values) c.self.view_is) c.put_small.ensures.ok

pub returns-clause-err : goal.returns-clause-err
unfolding column_of
returns-clause-err c =
    on_err_weaker c.put_small.result (λ h. tab-same value.Blank LAST_ROW (value_at c.self.inside.lanes) (value_at c.put_small.new.self) h ∙ ap (λ v. v.values) c.self.view_is) c.put_small.ensures.err
