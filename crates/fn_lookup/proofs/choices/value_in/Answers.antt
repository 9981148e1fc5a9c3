use Rattle.std.proofs.Common.{◌≡◌, ◌+◌, ◌<◌, sym, subst, ◌∙◌, rules}
use Rattle.calc_model.specs.Lookup.{col_count, row_count, value_in}
use Rattle.calc_model.specs.Meanings.{values_in}
use Rattle.fn_lookup.proofs.Numbering.{value-there}
use Rattle.fn_lookup.proofs.choices.value_in.Goals as goal

pub returns : goal.returns
returns g c =
    let v = g.V.Values.values c.args.values.now in
    let is = c.area.view_is in
    let there = subst (λ a. v (record { sheet = c.area.inside.sheet; col = c.area.inside.first_col + c.args.col; row = c.area.inside.first_row + c.args.row }) ≡ value_in (record { area = a; values = values_in v a }) c.args.row c.args.col) is
    (value-there v _ c.args.row c.args.col (subst (λ a. c.args.row < row_count a) (sym is) c.requires.row) (subst (λ a. c.args.col < col_count a) (sym is) c.requires.col)) in
    search (rules, c.look.ensures ∙ there)
