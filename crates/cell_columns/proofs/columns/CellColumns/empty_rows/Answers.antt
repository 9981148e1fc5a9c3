use Rattle.std.proofs.Common.{◌+◌, subst, arith}
use Rattle.calc_model.specs.CellEdits.{CellEntries}
use Rattle.cell_columns.specs.Cells.{column_at, column_number}
use Rattle.cell_columns.specs.Lent.{slots_of}
use Rattle.cell_columns.specs.Looks.{AreEmptyBelow}
use Rattle.cell_columns.specs.Walks.{AreEmpty}
use Rattle.cell_columns.proofs.Looked.{empty_cells}
use Rattle.cell_columns.proofs.columns.CellColumns.empty_rows.Goals as goal

pub returns-clause-empty : goal.returns-clause-empty
returns-clause-empty c =
    let codes = c.self.inside.table in
    let columns = slots_of c.self.inside.columns.items in
    subst (λ (es : CellEntries). AreEmptyBelow es c.args.start c.empty_below.result) c.self.view_is
    (empty_cells codes columns c.self.invariant.sheets c.args.start c.empty_below.ensures.place c.empty_below.result (omega (arith, c.empty_below.ensures.most, c.requires.from, c.requires.to))
    (subst (λ cs. AreEmpty (column_at (slots_of cs) (column_number c.args.start)) c.args.start.row (c.args.start.row + c.empty_below.result)) c.deref.ensures.value c.empty_below.ensures.empty))
