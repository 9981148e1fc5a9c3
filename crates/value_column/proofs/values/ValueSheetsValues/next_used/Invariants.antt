use Rattle.std.proofs.Common.{◌≡◌}
use Rattle.std.specs.List.{filter}
use Rattle.calc_addr.specs.Places.{places}
use Rattle.value_column.specs.Sheets.{cell_values, is_sought}
use Rattle.value_column.proofs.Columns.{cells_from}
use Rattle.value_column.proofs.values.ValueSheetsValues.next_used.Given as goal

-- none of the cells of the columns so far is one that is looked for
abbrev pub invariant-loop-col : goal.invariant-loop-col
invariant-loop-col l =
    filter (is_sought (cell_values l.self) l.fn.after) (places l.fn.area)
    ≡ filter (is_sought (cell_values l.self) l.fn.after) (cells_from l.fn.area.sheet l.fn.area.first_row l.fn.area.last_row l.col l.fn.area.last_col)
