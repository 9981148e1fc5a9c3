use Rattle.std.proofs.Common.{◌≡◌, take}
use Rattle.cell_columns.specs.Looks.{with_contents}
use Rattle.cell_columns.specs.Shifted.{shifted}
use Rattle.cell_columns.proofs.columns.CellColumns.changed.Given as goal

abbrev pub invariant-loop-cell : goal.invariant-loop-cell
invariant-loop-cell l = l.entries.items ≡ shifted l.fn.change (with_contents l.fn.self (take l.cell-index l.fn.cells))
