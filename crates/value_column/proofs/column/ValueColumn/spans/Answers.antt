use Rattle.std.proofs.Common.{◌≡◌, ◌+◌, ◌-◌, take, drop, ap, ◌∙◌, arith}
use Rattle.value_column.specs.Rows.{column_of}
use Rattle.value_column.proofs.LeftRows.{left-of}
use Rattle.value_column.proofs.column.ValueColumn.spans.Goals as goal

pub returns-clause-values : goal.returns-clause-values
returns-clause-values c =
    let t = c.self.inside.lanes in
    let rows : c.args.last - (c.args.first - 1) ≡ c.args.last + 1 - c.args.first = omega (arith, c.requires.from, c.requires.in_order) in
    c.of.ensures.values
    ∙ left-of t c.args.first c.args.last c.requires.from c.requires.in_order c.requires.to
    ∙ ap (λ n. take n (drop (c.args.first - 1) (column_of t))) rows
    ∙ ap (λ v. take (c.args.last + 1 - c.args.first) (drop (c.args.first - 1) v.values)) c.self.view_is
