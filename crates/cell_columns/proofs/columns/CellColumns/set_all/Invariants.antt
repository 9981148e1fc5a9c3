use Rattle.std.proofs.Common.{◌≡◌, take}
use Rattle.cell_columns.specs.Reset.{with_all}
use Rattle.cell_columns.proofs.columns.CellColumns.set_all.Given as goal

abbrev pub invariant-loop-cell : goal.invariant-loop-cell
invariant-loop-cell l = l.self ≡ with_all l.fn.self (take l.cell-index l.fn.entries)
