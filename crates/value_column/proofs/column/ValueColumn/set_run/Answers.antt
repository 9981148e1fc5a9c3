use Rattle.std.proofs.Common.{◌-◌, length, get_or, vec_len, refl, sym, ap, ◌∙◌, arith}
use Rattle.std.proofs.lemmas.List.FromFn.{length-map-range_with_len}
use Rattle.std.proofs.lemmas.Result.{on_ok_weaker, on_err_weaker}
use Rattle.calc_addr.specs.declared.cell.TheConstants.{LAST_ROW}
use Rattle.calc_model.specs.declared.value.Value.TheVariants as value
use Rattle.value_column.specs.Rows.{column_of, value_at}
use Rattle.value_column.specs.ValueRows.{run_set}
use Rattle.value_column.proofs.Tabs.{tab-written, tab-same}
use Rattle.value_column.proofs.column.ValueColumn.set_run.Goals as goal

pub returns-clause-ok : goal.returns-clause-ok
unfolding column_of
returns-clause-ok c =
    let vs = c.args.values.items in
    on_ok_weaker c.put_run.result
    (λ h. tab-written value.Blank LAST_ROW (value_at c.self.inside.lanes) (value_at c.put_run.new.self) (λ k. get_or vs k value.Blank) vs (c.args.first - 1) (vec_len c.args.values) (omega (arith, c.args.values.ok))
    (omega (arith, c.requires.from, c.requires.to)) (λ k m. refl) h
    ∙ ap (λ v. run_set (c.args.first - 1) vs v.values) c.self.view_is) c.put_run.ensures.ok

pub returns-clause-err : goal.returns-clause-err
unfolding column_of
returns-clause-err c =
    on_err_weaker c.put_run.result (λ h. tab-same value.Blank LAST_ROW (value_at c.self.inside.lanes) (value_at c.put_run.new.self) h ∙ ap (λ v. v.values) c.self.view_is) c.put_run.ensures.err

pub returns-clause-rows : goal.returns-clause-rows
unfolding column_of
returns-clause-rows c = ap (λ v. length v.values) (sym c.self.view_is) ∙ length-map-range_with_len (value_at c.self.inside.lanes) 0 LAST_ROW
