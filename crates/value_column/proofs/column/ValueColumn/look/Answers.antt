use Rattle.std.proofs.Common.{◌-◌, Some, sym, ap, ◌∙◌, arith, slice_get}
use Rattle.calc_addr.specs.declared.cell.TheConstants.{LAST_ROW}
use Rattle.calc_model.specs.declared.value.Value.TheVariants as value
use Rattle.value_column.specs.Rows.{column_of, value_at}
use Rattle.value_column.proofs.Tabs.{tab-get}
use Rattle.value_column.proofs.column.ValueColumn.look.Goals as goal

pub returns : goal.returns
unfolding column_of
returns c =
    ap (λ v. slice_get v.values (c.args.row - 1)) (sym c.self.view_is)
    ∙ tab-get value.Blank LAST_ROW (value_at c.self.inside.lanes) (c.args.row - 1) (omega (arith, c.requires.from, c.requires.to)) ∙ ap Some (sym c.look.ensures)
