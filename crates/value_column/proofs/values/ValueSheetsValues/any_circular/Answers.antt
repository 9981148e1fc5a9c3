use Rattle.std.proofs.Common.{◌+◌, ◌||◌, Bool, sym, ap, ◌∙◌, arith}
use Rattle.std.specs.List.{list_any}
use Rattle.calc_addr.specs.Places.{Place, Rectangle, column_places}
use Rattle.calc_model.specs.UsedCells.{has_circle, is_circle}
use Rattle.value_column.specs.Sheets.{cell_values}
use Rattle.value_column.proofs.Columns.{cells_from, any-column, no-columns}
use Rattle.value_column.proofs.values.ValueSheetsValues.any_circular.Goals as goal

pub returns-then-circle_in_column : goal.returns-then-circle_in_column
unfolding has_circle
returns-then-circle_in_column c =
    let l = c.loop-col in
    let a = c.args.area in
    let p : Place → Bool = λ q. is_circle (cell_values c.args.self.now q) in
    let here = c.if-circle_in_column.ensures ∙ ap (λ (b : Rectangle). list_any p (column_places b.sheet l.col b.first_row b.last_row)) c.area.view_is in
    sym (l.invariant ∙ any-column p a.sheet a.first_row a.last_row l.col a.last_col (omega (arith, c.loop-col-test.true, ap (λ (b : Rectangle). b.last_col) c.area.view_is))
    ∙ ap (λ v. v || list_any p (cells_from a.sheet a.first_row a.last_row (l.col + 1) a.last_col)) (sym here))

pub loop-col-preserved : goal.loop-col-preserved
loop-col-preserved c =
    let l = c.loop-col in
    let a = c.args.area in
    let p : Place → Bool = λ q. is_circle (cell_values c.args.self.now q) in
    let here = c.if-circle_in_column.ensures ∙ ap (λ (b : Rectangle). list_any p (column_places b.sheet l.col b.first_row b.last_row)) c.area.view_is in
    l.invariant ∙ any-column p a.sheet a.first_row a.last_row l.col a.last_col (omega (arith, c.loop-col-test.true, ap (λ (b : Rectangle). b.last_col) c.area.view_is))
    ∙ ap (λ v. v || list_any p (cells_from a.sheet a.first_row a.last_row (l.col + 1) a.last_col)) (sym here)

pub returns : goal.returns
unfolding has_circle
returns c =
    let l = c.loop-col in
    let a = c.args.area in
    let p : Place → Bool = λ q. is_circle (cell_values c.args.self.now q) in
    sym (l.invariant ∙ ap (list_any p) (no-columns a.sheet a.first_row a.last_row l.col a.last_col (omega (arith, c.loop-col-test.false, ap (λ (b : Rectangle). b.last_col) c.area.view_is))))
