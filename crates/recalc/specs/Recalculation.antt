-- Results that are right for some cells of a book, with the list of the cells among them that reach a circle.
use Rattle.std.specs.Prelude.{◌≡◌, true, not, ◌&&◌, List, Option}
use Rattle.calc_addr.specs.Places.{Place}
use Rattle.calc_model.specs.Books.{Book}
use Rattle.calc_model.specs.Grounded.{is_circular}
use Rattle.calc_model.specs.Results.{is_known, shown_by}
use Rattle.calc_model.specs.Stale.{is_formula_cell}
use Rattle.calc_model.specs.Touched.{CellSet}
use Rattle.calc_model.specs.Val.{val}
use Rattle.dirty_spread.specs.Waves.{has}
use Rattle.formula_results.specs.Results.{results_of}
use Rattle.value_column.specs.ValueRows.{ValueRows}

-- the results of formulas, and the list of those formulas that reach a circle
pub record Stored : Type 0 where
  pub results : List (Option ValueRows)
  pub circles : List Place

-- Of the cells each shows its value in the book. Those that reach a circle are the formulas that have no result, and
-- those that the list has.
pub record AreRight (book : Book) (stored : Stored) (cells : CellSet) : Type 0 where
  pub values : (q : Place) → cells q ≡ true → shown_by book (results_of stored.results) q ≡ val book q
  pub known : (q : Place) → cells q ≡ true → is_known book (results_of stored.results) q ≡ not (is_circular book q)
  pub listed : (q : Place) → cells q ≡ true → is_formula_cell book q ≡ true → has stored.circles q ≡ is_circular book q

-- the cells that aren't in the list
abbrev pub beside : List Place → CellSet
beside stale q = not (has stale q)

-- the cells of a list that hold formulas and aren't stale
abbrev pub kept : Book → List Place → List Place → CellSet
kept book stale circles q = has circles q && (is_formula_cell book q && not (has stale q))
