use Rattle.std.proofs.Common.{ap, ◌∙◌}
use Rattle.calc_addr.specs.Places.{Rectangle}
use Rattle.calc_model.specs.CellEdits.{CellEntries, without_area}
use Rattle.cell_columns.specs.Cells.{cells_of}
use Rattle.cell_columns.specs.Emptied.{without_rows}
use Rattle.cell_columns.specs.Lent.{slots_of}
use Rattle.cell_columns.proofs.Rooms.{without_covered}
use Rattle.cell_columns.proofs.Told.{entries_are}
use Rattle.cell_columns.proofs.columns.CellColumns.clear.Goals as goal

pub returns-clause-cells : goal.returns-clause-cells
returns-clause-cells c =
    let from = c.numbers_of-from.result.0 in
    let behind = c.numbers_of-from.result.1 in
    let columns = slots_of c.self.inside.columns.items in
    c.clear_columns-self-inside.ensures.cells
    ∙ ap (λ (a : Rectangle). without_rows from behind a.first_row a.last_row (cells_of c.self.inside.table (slots_of c.make_rooms.new.columns.items))) c.area.view_is
    ∙ ap (λ cs. without_rows from behind c.args.area.first_row c.args.area.last_row (cells_of c.self.inside.table cs)) c.make_rooms.ensures.slots
    ∙ without_covered c.args.area c.numbers_of-from.ensures.area from behind c.numbers_of-from.ensures.from c.numbers_of-from.ensures.behind (cells_of c.self.inside.table columns) (entries_are c.self.inside.table columns c.self.invariant.sheets)
    ∙ ap (λ (es : CellEntries). without_area es c.args.area) c.self.view_is
