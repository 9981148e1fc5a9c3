use Rattle.std.proofs.Common.{take}
use Rattle.cell_runs.specs.CellLists.{all_cells}
use Rattle.formula_groups.specs.GroupRows.{columns_of}
use Rattle.recalc.specs.CodedUnits.{AreCodedUnits}
use Rattle.recalc.proofs.units.find_units.Given as goal

abbrev pub invariant-loop-run : goal.invariant-loop-run
invariant-loop-run l = AreCodedUnits (columns_of l.groups) (all_cells (take l.run-index l.runs)) l.units.items
