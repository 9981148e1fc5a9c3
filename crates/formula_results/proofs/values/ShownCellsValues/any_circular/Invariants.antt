use Rattle.std.proofs.Common.{◌≡◌}
use Rattle.std.specs.List.{list_any}
use Rattle.calc_addr.specs.Places.{Place, places}
use Rattle.calc_model.specs.UsedCells.{is_circle}
use Rattle.formula_results.specs.ShownCells.{shown_values}
use Rattle.formula_results.proofs.values.ShownCellsValues.any_circular.Given as goal

-- the cells so far show no circle
abbrev pub invariant-loop-cell : goal.invariant-loop-cell
invariant-loop-cell l =
    let circle = λ (q : Place). is_circle (shown_values l.self q) in
    list_any circle (places l.fn.area) ≡ list_any circle l.cell-iterator
