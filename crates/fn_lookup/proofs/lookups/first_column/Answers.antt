use Rattle.std.proofs.Common.{◌≡◌, subst}
use Rattle.calc_model.specs.Lookup.{first_column}
use Rattle.calc_model.specs.Meanings.{values_in}
use Rattle.fn_lookup.specs.Lines.{valued}
use Rattle.fn_lookup.proofs.Lining.{column-is}
use Rattle.fn_lookup.proofs.lookups.first_column.Goals as goal

pub returns : goal.returns
returns c =
    λ v.
    subst (λ a. values_in v (record { sheet = c.area.inside.sheet; first_col = c.area.inside.first_col; last_col = c.area.inside.first_col; first_row = c.area.inside.first_row; last_row = c.area.inside.last_row }) ≡ first_column (valued v a)) c.area.view_is
    (column-is v _ c.area.invariant.cols_in_order c.area.invariant.rows_in_order)
