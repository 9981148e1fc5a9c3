-- What the cells of a book's parts show by some results.
use Rattle.calc_model.specs.Results.{shown_by}
use Rattle.calc_model.specs.Scalars.{CellValues}
use Rattle.formula_results.specs.Results.{results_of}
use Rattle.formula_results.specs.declared.values.ShownCells.{ShownCells}

abbrev pub shown_values : ShownCells → CellValues
shown_values shown = shown_by shown.cells.now (results_of shown.results.now)
