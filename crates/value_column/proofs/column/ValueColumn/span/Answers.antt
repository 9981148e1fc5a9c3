use Rattle.std.proofs.Common.{◌+◌, ◌-◌, length, get_or, sym, ap, ◌∙◌, arith}
use Rattle.calc_addr.specs.declared.cell.TheConstants.{LAST_ROW}
use Rattle.calc_model.specs.declared.value.Value.TheVariants as value
use Rattle.value_column.specs.Rows.{column_of, value_at, value_tag}
use Rattle.value_column.specs.Spans.{span_values}
use Rattle.value_column.proofs.Tabs.{tab-at}
use Rattle.value_column.proofs.column.ValueColumn.span.Goals as goal

pub returns-clause-rows : goal.returns-clause-rows
unfolding column_of
returns-clause-rows c =
    λ k h.
    c.span.ensures.rows k h
    ∙ sym (tab-at value.Blank LAST_ROW (value_at c.self.inside.lanes) (c.args.first - 1 + k) (omega (arith, c.span.ensures.within, c.requires.to, c.requires.from)))
    ∙ ap (λ v. get_or v.values (c.args.first - 1 + k) value.Blank) c.self.view_is

pub returns-clause-longest : goal.returns-clause-longest
unfolding column_of
returns-clause-longest c =
    let n = length (span_values c.span.result) in
    λ more same.
    c.span.ensures.longest (omega (arith, more, c.requires.from))
    (ap value_tag (sym (tab-at value.Blank LAST_ROW (value_at c.self.inside.lanes) (c.args.first - 1 + n) (omega (arith, more, c.requires.to, c.requires.from)))
    ∙ ap (λ v. get_or v.values (c.args.first - 1 + n) value.Blank) c.self.view_is) ∙ same)
