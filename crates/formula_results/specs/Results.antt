-- Which result a cell has, by stored values: a blank one is none.
use Rattle.std.specs.Prelude.{◌≡◌, ◌-◌, List, Option, None, Some, if◌then◌else◌, slice_get}
use Rattle.calc_addr.specs.Places.{Place, Rows}
use Rattle.calc_model.specs.declared.value.Value.{Value}
use Rattle.calc_model.specs.declared.value.Value.TheVariants.{Blank}
use Rattle.calc_model.specs.Books.{is_place}
use Rattle.calc_model.specs.Results.{Results}
use Rattle.run_unions.specs.Unions.{is_in}
use Rattle.value_column.specs.Sheets.{cell_values}
use Rattle.value_column.specs.ValueRows.{ValueRows}

abbrev pub result_of : Value → Option Value
result_of Blank = None
result_of value = Some value

-- the result of a cell of the sheets
unfoldable pub results_of : List (Option ValueRows) → Results
results_of sheets cell = if is_place cell then result_of (cell_values sheets cell) else None

-- the cells of a run have no result any more, and the others have theirs
abbrev pub Clears : Results → Results → Rows → Type 0
Clears old new run = (q : Place) → new q ≡ (if is_in q run then None else old q)

-- the cells of a run have those results, the first row's first, and the others have theirs
abbrev pub SetsRun : Results → Results → Rows → List Value → Type 0
SetsRun old new run values = (q : Place) → new q ≡ (if is_in q run then slice_get values (q.row - run.first) else old q)

-- each cell has the result that it had
abbrev pub SameResults : Results → Results → Type 0
SameResults old new = (q : Place) → new q ≡ old q
