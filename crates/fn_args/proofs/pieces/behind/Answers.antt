use Rattle.std.proofs.Common.{◌≡◌, true, sym, ◌+◌, ◌-◌, ◌≤◌, arith, Some, None}
use Rattle.calc_addr.specs.Places.{covers}
use Rattle.fn_args.specs.Pieces.{IsBehind}
use Rattle.fn_args.proofs.Columns.{along, behind_all, behind_column, behind_further}
use Rattle.fn_args.proofs.pieces.behind.Goals as goal

pub returns-then-count-left : goal.returns-then-count-left
returns-then-count-left c =
    let n = c.args.count in
    along (λ a p. IsBehind a p n (Some (record { sheet = c.cell.inside.sheet; col = c.cell.inside.col; row = c.cell.inside.row + n }))) c.area.view_is c.cell.view_is
    (behind_further _ _ n (along (λ a p. covers a p ≡ true) (sym c.area.view_is) (sym c.cell.view_is) c.requires.covered) c.if-count-left.true)

pub returns-then-cell-area : goal.returns-then-cell-area
returns-then-cell-area c =
    let n = c.args.count in
    let within = along (λ a p. n ≤ a.last_row + 1 - p.row) (sym c.area.view_is) (sym c.cell.view_is) c.requires.within in
    along (λ a p. IsBehind a p n (Some (record { sheet = c.cell.inside.sheet; col = c.cell.inside.col + 1; row = c.area.inside.first_row }))) c.area.view_is c.cell.view_is
    (behind_column _ _ n (along (λ a p. covers a p ≡ true) (sym c.area.view_is) (sym c.cell.view_is) c.requires.covered) (omega (arith, within, c.if-count-left.false)) c.if-cell-area.true c.area.invariant.rows_in_order)

pub returns-else-cell-area : goal.returns-else-cell-area
returns-else-cell-area c =
    let n = c.args.count in
    let within = along (λ a p. n ≤ a.last_row + 1 - p.row) (sym c.area.view_is) (sym c.cell.view_is) c.requires.within in
    along (λ a p. IsBehind a p n None) c.area.view_is c.cell.view_is
    (behind_all _ _ n (along (λ a p. covers a p ≡ true) (sym c.area.view_is) (sym c.cell.view_is) c.requires.covered) (omega (arith, within, c.if-count-left.false)) c.if-cell-area.false)
