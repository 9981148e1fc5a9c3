use Rattle.std.proofs.Common.{◌≡◌, ◌&&◌, false, slice_get, sym, ap, ◌∙◌, arith}
use Rattle.std.proofs.lemmas.Bool.{and_left, and_right}
use Rattle.calc_model.specs.UsedCells.{is_past, is_used}
use Rattle.value_column.specs.Sheets.{cell_values, is_sought}
use Rattle.value_column.proofs.Columns.{row_in, skip-row, no-row}
use Rattle.value_column.proofs.Starts.{skip-rows}
use Rattle.value_column.proofs.sheets.ValueSheets.next_in_column.Goals as goal
use Rattle.value_column.proofs.sheets.ValueSheets.next_in_column.Goals.{else-is_used-via-then-is_used+else-is_past, else-is_used-via-else-is_used}

pub loop-row-preserved : goal.loop-row-preserved
loop-row-preserved c =
    let l = c.loop-row in
    let v = cell_values c.args.self.now in
    let q = row_in c.args.sheet c.args.col l.row in
    let out : is_sought v c.args.after.now q ≡ false = elim c.else-is_used.branch [
      | else-is_used-via-then-is_used+else-is_past w ↦ and_right (is_used (v q)) (is_past c.args.after.now q) (sym w.if-is_past.ensures)
      | else-is_used-via-else-is_used w ↦ and_left (is_used (v q)) (is_past c.args.after.now q) (sym w.if-is_used.ensures)
    ] in
    l.invariant ∙ skip-row (is_sought v c.args.after.now) c.args.sheet c.args.col l.row c.args.last (omega (arith, c.loop-row-test.true, c.min-end.ensures)) out

pub returns : goal.returns
returns c =
    let l = c.loop-row in
    let v = cell_values c.args.self.now in
    sym (ap (λ xs. slice_get xs 0)
    (l.invariant ∙ no-row (is_sought v c.args.after.now) c.args.sheet c.args.col l.row c.args.last
    (λ r h k. ap (λ x. is_used x && is_past c.args.after.now (row_in c.args.sheet c.args.col r)) (c.reach.ensures r (omega (arith, c.loop-row-test.false, c.min-end.ensures))))))

pub loop-row-init : goal.loop-row-init
loop-row-init c =
    let v = cell_values c.args.self.now in
    skip-rows (is_sought v c.args.after.now) c.args.sheet c.args.col c.args.first c.first_past-from.result c.args.last c.first_past-from.ensures.from c.first_past-from.ensures.to
    (λ r h k. and_right (is_used (v (row_in c.args.sheet c.args.col r))) (is_past c.args.after.now (row_in c.args.sheet c.args.col r)) (c.first_past-from.ensures.skipped r h k))
