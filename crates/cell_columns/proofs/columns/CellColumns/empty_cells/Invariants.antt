use Rattle.std.proofs.Common.{◌≡◌, take}
use Rattle.cell_columns.specs.Reset.{emptied}
use Rattle.cell_columns.proofs.columns.CellColumns.empty_cells.Given as goal

abbrev pub invariant-loop-cell : goal.invariant-loop-cell
invariant-loop-cell l = l.self ≡ emptied l.fn.self (take l.cell-index l.fn.cells)
