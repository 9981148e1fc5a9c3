use Rattle.std.proofs.Common.{◌≡◌, take}
use Rattle.cell_columns.specs.Looks.{with_contents}
use Rattle.cell_columns.proofs.columns.CellColumns.with_contents.Given as goal

abbrev pub invariant-loop-cell : goal.invariant-loop-cell
invariant-loop-cell l = l.entries.items ≡ with_contents l.fn.self (take l.cell-index l.fn.cells)
