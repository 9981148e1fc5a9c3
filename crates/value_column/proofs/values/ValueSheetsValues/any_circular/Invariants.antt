use Rattle.std.proofs.Common.{◌≡◌}
use Rattle.std.specs.List.{list_any}
use Rattle.calc_addr.specs.Places.{Place, places}
use Rattle.calc_model.specs.UsedCells.{is_circle}
use Rattle.value_column.specs.Sheets.{cell_values}
use Rattle.value_column.proofs.Columns.{cells_from}
use Rattle.value_column.proofs.values.ValueSheetsValues.any_circular.Given as goal

-- the cells of the columns so far show no circle
abbrev pub invariant-loop-col : goal.invariant-loop-col
invariant-loop-col l =
    let circle = λ (q : Place). is_circle (cell_values l.self q) in
    list_any circle (places l.fn.area) ≡ list_any circle (cells_from l.fn.area.sheet l.fn.area.first_row l.fn.area.last_row l.col l.fn.area.last_col)
