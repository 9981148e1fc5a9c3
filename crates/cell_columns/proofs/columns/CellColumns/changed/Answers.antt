use Rattle.calc_model.specs.Books.{content_at, is_formula}
use Rattle.cell_columns.specs.Cells.{cells_only}
use Rattle.cell_columns.proofs.RowsChanged.{all_at, formula_stays}
use Rattle.cell_columns.proofs.columns.CellColumns.changed.Goals as goal

pub home_after-requires-clause-stays : goal.home_after-requires-clause-stays
home_after-requires-clause-stays c =
    formula_stays c.args.change c.args.self.now c.are_book.ensures c.requires.stay c.cell-item.result
    (all_at (λ q. is_formula (content_at (cells_only c.args.self.now) q)) c.args.cells.now c.loop-cell.cell-index c.cell-item.result c.requires.formulas c.loop-cell-test.true c.cell-item.is)
