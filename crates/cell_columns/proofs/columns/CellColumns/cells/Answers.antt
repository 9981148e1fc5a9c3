use Rattle.std.proofs.Common.{◌++◌, ap, ◌∙◌}
use Rattle.calc_addr.specs.declared.cell.TheConstants.{LAST_ROW}
use Rattle.kept_codes.specs.declared.cells.TheConstants.{COLUMNS}
use Rattle.cell_columns.specs.Cells.{cells_of}
use Rattle.cell_columns.specs.Lent.{slots_of}
use Rattle.cell_columns.specs.Walks.{places_of, within_rows}
use Rattle.cell_columns.proofs.Looked.{all_within}
use Rattle.cell_columns.proofs.Told.{entries_are}
use Rattle.cell_columns.proofs.columns.CellColumns.cells.Goals as goal

pub returns : goal.returns
returns c =
    let codes = c.self.inside.table in
    let columns = slots_of c.self.inside.columns.items in
    c.in_ok-push_cells.ensures codes
    ∙ ap (λ ps. ps ++ places_of (within_rows 0 COLUMNS 1 LAST_ROW (cells_of codes (slots_of c.deref.result.now)))) c.new-cells.ensures.items
    ∙ ap places_of (
    ap (λ cs. within_rows 0 COLUMNS 1 LAST_ROW (cells_of codes (slots_of cs))) c.deref.ensures.value
    ∙ all_within (cells_of codes columns) (entries_are codes columns c.self.invariant.sheets)
    ∙ c.self.view_is
    )
