use Rattle.std.proofs.Common.{◌+◌, ap, arith}
use Rattle.calc_addr.specs.Places.{Rows}
use Rattle.calc_model.specs.Results.{shown_content}
use Rattle.formula_results.specs.Results.{results_of}
use Rattle.formula_results.specs.ShownCells.{shown_values}
use Rattle.formula_results.proofs.EmptyRows.{at_row, blank_front}
use Rattle.formula_results.proofs.values.ShownCellsValues.piece.Goals as goal

pub returns-else-count-eq0 : goal.returns-else-count-eq0
returns-else-count-eq0 c =
    let rows : Rows = record { sheet = c.args.sheet; col = c.args.col; first = c.args.first; last = c.args.last } in
    blank_front (shown_values c.args.self.now) rows c.empty_rows-count.result (omega (arith, c.if-count-eq0.false)) c.empty_rows-count.ensures.most
    (λ k h. ap (shown_content (results_of c.args.self.now.results.now (at_row c.args.sheet c.args.col (c.args.first + k)))) (c.empty_rows-count.ensures.empty k h))
