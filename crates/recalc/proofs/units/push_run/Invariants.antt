use Rattle.std.proofs.Common.{◌+◌, ◌-◌, ◌≤◌, ◌++◌, List}
use Rattle.calc_addr.specs.Places.{Place, column_places}
use Rattle.formula_groups.specs.GroupRows.{columns_of}
use Rattle.recalc.specs.CodedUnits.{AreCodedUnits}
use Rattle.recalc.proofs.units.push_run.Given as goal

abbrev pub invariant-loop-row : goal.invariant-loop-row
invariant-loop-row l =
    (1 ≤ l.row) × (l.fn.run.first ≤ l.row) × (l.row ≤ l.fn.run.last + 1)
    × ((cells : List Place) → AreCodedUnits (columns_of l.groups) cells l.initial.units.items
    → AreCodedUnits (columns_of l.groups) (cells ++ column_places l.fn.run.sheet l.fn.run.col l.fn.run.first (l.row - 1)) l.units.items)

abbrev pub decreases-loop-row : goal.decreases-loop-row
decreases-loop-row l = l.run-inside.last + 1 - l.row
