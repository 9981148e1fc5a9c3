use Rattle.std.proofs.Common.{◌≡◌}
use Rattle.std.specs.List.{filter}
use Rattle.calc_addr.specs.Places.{column_places}
use Rattle.value_column.specs.Sheets.{cell_values, is_sought}
use Rattle.value_column.proofs.sheets.ValueSheets.next_in_column.Given as goal

-- none of the rows so far is one that is looked for
abbrev pub invariant-loop-row : goal.invariant-loop-row
invariant-loop-row l = filter (is_sought (cell_values l.self) l.after) (column_places l.sheet l.col l.first l.last) ≡ filter (is_sought (cell_values l.self) l.after) (column_places l.sheet l.col l.row l.last)
