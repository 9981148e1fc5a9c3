use Rattle.std.proofs.Common.{subst}
use Rattle.calc_model.specs.Books.{IsBook}
use Rattle.calc_model.specs.CellEdits.{CellEntries}
use Rattle.cell_columns.specs.Cells.{cells_only}
use Rattle.cell_columns.specs.Lent.{slots_of}
use Rattle.cell_columns.proofs.Told.{is_book}
use Rattle.cell_columns.proofs.columns.CellColumns.are_book.Goals as goal

pub returns : goal.returns
returns c =
    subst (λ (es : CellEntries). IsBook (cells_only es)) c.self.view_is
    (is_book c.self.inside.table (slots_of c.self.inside.columns.items) c.self.invariant.sheets c.self.invariant.few)
