use Rattle.cell_columns.proofs.ColumnsMoved.{Moving}
use Rattle.cell_columns.proofs.shifting.move_columns.Given as goal

abbrev pub invariant-loop-number : goal.invariant-loop-number
invariant-loop-number l = Moving l.fn.change l.fn.columns.items l.columns.items l.groups.items l.fn.from l.number
