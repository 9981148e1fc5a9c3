use Rattle.std.proofs.Common.{◌≡◌, ◌&&◌}
use Rattle.std.specs.List.{filter}
use Rattle.calc_addr.specs.Places.{Place, places}
use Rattle.calc_model.specs.UsedCells.{is_past, is_used}
use Rattle.formula_results.specs.ShownCells.{shown_values}
use Rattle.formula_results.proofs.values.ShownCellsValues.next_used.Given as goal

-- none of the cells so far is one that is looked for
abbrev pub invariant-loop-cell : goal.invariant-loop-cell
invariant-loop-cell l =
    let sought = λ (q : Place). is_used (shown_values l.self q) && is_past l.after q in
    filter sought (places l.fn.area) ≡ filter sought l.cell-iterator
