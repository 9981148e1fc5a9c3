use Rattle.std.proofs.Common.{length, ap, ◌∙◌, arith}
use Rattle.calc_addr.specs.Places.{Rectangle}
use Rattle.calc_model.specs.CellEdits.{CellEntries, within_area}
use Rattle.cell_columns.specs.Cells.{cells_of}
use Rattle.cell_columns.specs.Lent.{slots_of}
use Rattle.cell_columns.specs.Uses.{cell_of, summed}
use Rattle.cell_columns.specs.Walks.{within_rows}
use Rattle.cell_columns.proofs.Counted.{counted}
use Rattle.cell_columns.proofs.Rooms.{within_covered}
use Rattle.cell_columns.proofs.Told.{entries_are}
use Rattle.cell_columns.proofs.columns.CellColumns.count_within.Goals as goal

pub count_cells-requires-clause-few : goal.count_cells-requires-clause-few
count_cells-requires-clause-few c =
    omega (arith, ap (λ cs. summed cell_of (slots_of cs)) c.deref.ensures.value, counted c.self.inside.table (slots_of c.self.inside.columns.items), c.self.invariant.few)

pub returns : goal.returns
returns c =
    let from = c.numbers_of-from.result.0 in
    let behind = c.numbers_of-from.result.1 in
    let codes = c.self.inside.table in
    let columns = slots_of c.self.inside.columns.items in
    c.count_cells.ensures codes
    ∙ ap length (
    ap (λ (a : Rectangle). within_rows from behind a.first_row a.last_row (cells_of codes (slots_of c.deref.result.now))) c.area.view_is
    ∙ ap (λ cs. within_rows from behind c.args.area.first_row c.args.area.last_row (cells_of codes (slots_of cs))) c.deref.ensures.value
    ∙ within_covered c.args.area c.numbers_of-from.ensures.area from behind c.numbers_of-from.ensures.from c.numbers_of-from.ensures.behind (cells_of codes columns) (entries_are codes columns c.self.invariant.sheets)
    ∙ ap (λ (es : CellEntries). within_area es c.args.area) c.self.view_is
    )
