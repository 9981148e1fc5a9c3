use Rattle.std.proofs.Common.{◌+◌, slice_get, sym, ap, ◌∙◌, arith}
use Rattle.std.specs.List.{filter}
use Rattle.calc_addr.specs.Places.{Rectangle, column_places}
use Rattle.calc_model.specs.UsedCells.{used_past}
use Rattle.value_column.specs.Sheets.{cell_values, is_sought}
use Rattle.value_column.proofs.Columns.{cells_from, next-column, no-columns, first-some, first-none}
use Rattle.value_column.proofs.values.ValueSheetsValues.next_used.Goals as goal

pub returns-in-Some : goal.returns-in-Some
unfolding used_past
returns-in-Some c =
    let l = c.loop-col in
    let a = c.args.area in
    let p = is_sought (cell_values c.args.self.now) c.args.after in
    let here = c.in-Some.ensures ∙ ap (λ (b : Rectangle). slice_get (filter p (column_places b.sheet l.col b.first_row b.last_row)) 0) c.area.view_is in
    sym (ap (λ xs. slice_get xs 0) (l.invariant ∙ next-column p a.sheet a.first_row a.last_row l.col a.last_col (omega (arith, c.loop-col-test.true, ap (λ (b : Rectangle). b.last_col) c.area.view_is)))
    ∙ first-some (filter p (column_places a.sheet l.col a.first_row a.last_row)) (filter p (cells_from a.sheet a.first_row a.last_row (l.col + 1) a.last_col)) c.in-Some.cell (sym here))

pub loop-col-preserved : goal.loop-col-preserved
loop-col-preserved c =
    let l = c.loop-col in
    let a = c.args.area in
    let p = is_sought (cell_values c.args.self.now) c.args.after in
    let here = c.in-None.ensures ∙ ap (λ (b : Rectangle). slice_get (filter p (column_places b.sheet l.col b.first_row b.last_row)) 0) c.area.view_is in
    l.invariant ∙ next-column p a.sheet a.first_row a.last_row l.col a.last_col (omega (arith, c.loop-col-test.true, ap (λ (b : Rectangle). b.last_col) c.area.view_is))
    ∙ first-none (filter p (column_places a.sheet l.col a.first_row a.last_row)) (filter p (cells_from a.sheet a.first_row a.last_row (l.col + 1) a.last_col)) (sym here)

pub returns : goal.returns
unfolding used_past
returns c =
    let l = c.loop-col in
    let a = c.args.area in
    let p = is_sought (cell_values c.args.self.now) c.args.after in
    sym (ap (λ xs. slice_get xs 0) (l.invariant ∙ ap (filter p) (no-columns a.sheet a.first_row a.last_row l.col a.last_col (omega (arith, c.loop-col-test.false, ap (λ (b : Rectangle). b.last_col) c.area.view_is)))))
