use Rattle.std.proofs.Common.{ap, ◌∙◌}
use Rattle.std.proofs.lemmas.Result.{on_ok_weaker}
use Rattle.calc_addr.specs.declared.cell.TheConstants.{LAST_ROW}
use Rattle.calc_model.specs.declared.value.Value.TheVariants as value
use Rattle.value_column.specs.Rows.{column_of, value_at}
use Rattle.value_column.proofs.Spare.{any-room}
use Rattle.value_column.proofs.Tabs.{tab-same}
use Rattle.value_column.proofs.column.ValueColumn.reserve.Goals as goal

pub returns-clause-room : goal.returns-clause-room
returns-clause-room c = on_ok_weaker c.reserve.result (any-room c.reserve.new.self c.args.n c.ranges.n.fits) c.reserve.ensures.ok

pub returns-clause-values : goal.returns-clause-values
unfolding column_of
returns-clause-values c = tab-same value.Blank LAST_ROW (value_at c.self.inside.lanes) (value_at c.reserve.new.self) c.reserve.ensures.same ∙ ap (λ v. v.values) c.self.view_is
