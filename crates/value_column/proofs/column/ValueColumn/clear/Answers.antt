use Rattle.std.proofs.Common.{◌≡◌, ◌+◌, ◌-◌, ap, sym, ◌∙◌, length, arith}
use Rattle.std.proofs.lemmas.List.FromFn.{length-map-range_with_len}
use Rattle.calc_addr.specs.declared.cell.TheConstants.{LAST_ROW}
use Rattle.calc_model.specs.declared.value.Value.TheVariants as value
use Rattle.run_tables.specs.Rows.{rows_set}
use Rattle.value_column.specs.Rows.{column_of, value_at}
use Rattle.value_column.proofs.Tabs.{tab-cleared}
use Rattle.value_column.proofs.column.ValueColumn.clear.Goals as goal

pub returns-clause-ok : goal.returns-clause-ok
unfolding column_of
returns-clause-ok c =
    let rows : c.args.last - (c.args.first - 1) ≡ c.args.last + 1 - c.args.first = omega (arith, c.requires.from, c.requires.in_order) in
    tab-cleared value.Blank LAST_ROW (value_at c.self.inside.lanes) (value_at c.clear.new.self) (c.args.first - 1) c.args.last (omega (arith, c.requires.from, c.requires.in_order)) c.requires.to c.clear.ensures.rows
    ∙ ap (λ n. rows_set (c.args.first - 1) n value.Blank (column_of c.self.inside.lanes)) rows
    ∙ ap (λ v. rows_set (c.args.first - 1) (c.args.last + 1 - c.args.first) value.Blank v.values) c.self.view_is

pub returns-clause-rows : goal.returns-clause-rows
unfolding column_of
returns-clause-rows c = ap (λ v. length v.values) (sym c.self.view_is) ∙ length-map-range_with_len (value_at c.self.inside.lanes) 0 LAST_ROW
