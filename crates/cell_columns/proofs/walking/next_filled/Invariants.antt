use Rattle.std.proofs.Common.{◌+◌, ◌-◌, ◌≤◌}
use Rattle.cell_columns.specs.Walks.{AreEmpty}
use Rattle.cell_columns.proofs.walking.next_filled.Given as goal

-- the rows up to this one are empty
abbrev pub invariant-loop-row : goal.invariant-loop-row
invariant-loop-row l = (l.fn.first ≤ l.row) × AreEmpty l.fn.column.slots l.fn.first l.row

abbrev pub decreases-loop-row : goal.decreases-loop-row
decreases-loop-row l = l.last + 1 - l.row
