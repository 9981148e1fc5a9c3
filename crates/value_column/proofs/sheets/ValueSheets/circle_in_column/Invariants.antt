use Rattle.std.proofs.Common.{◌≡◌}
use Rattle.std.specs.List.{list_any}
use Rattle.calc_addr.specs.Places.{Place, column_places}
use Rattle.calc_model.specs.UsedCells.{is_circle}
use Rattle.value_column.specs.Sheets.{cell_values}
use Rattle.value_column.proofs.sheets.ValueSheets.circle_in_column.Given as goal

-- the rows so far show no circle
abbrev pub invariant-loop-row : goal.invariant-loop-row
invariant-loop-row l =
    let circle = λ (q : Place). is_circle (cell_values l.self q) in
    list_any circle (column_places l.sheet l.col l.first l.last) ≡ list_any circle (column_places l.sheet l.col l.row l.last)
