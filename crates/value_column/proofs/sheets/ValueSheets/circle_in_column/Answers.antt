use Rattle.std.proofs.Common.{◌+◌, ◌||◌, Bool, sym, ap, ◌∙◌, arith}
use Rattle.std.specs.List.{list_any}
use Rattle.calc_addr.specs.Places.{Place, column_places}
use Rattle.calc_model.specs.UsedCells.{is_circle}
use Rattle.value_column.specs.Sheets.{cell_values}
use Rattle.value_column.proofs.Columns.{any-row, no-any}
use Rattle.value_column.proofs.sheets.ValueSheets.circle_in_column.Goals as goal

pub loop-row-preserved : goal.loop-row-preserved
loop-row-preserved c =
    let l = c.loop-row in
    let p : Place → Bool = λ q. is_circle (cell_values c.args.self.now q) in
    l.invariant ∙ any-row p c.args.sheet c.args.col l.row c.args.last (omega (arith, c.loop-row-test.true, c.min-end.ensures))
    ∙ ap (λ b. b || list_any p (column_places c.args.sheet c.args.col (l.row + 1) c.args.last)) (sym c.if-is_circle.ensures)

pub returns : goal.returns
returns c =
    let l = c.loop-row in
    let p : Place → Bool = λ q. is_circle (cell_values c.args.self.now q) in
    sym (l.invariant ∙ no-any p c.args.sheet c.args.col l.row c.args.last (λ r h k. ap is_circle (c.reach.ensures r (omega (arith, c.loop-row-test.false, c.min-end.ensures)))))
