use Rattle.cell_columns.proofs.Rooms.{Cleared}
use Rattle.cell_columns.proofs.emptying.clear_columns.Given as goal

abbrev pub invariant-loop-number : goal.invariant-loop-number
invariant-loop-number l =
    Cleared l.fn.codes l.fn.columns.items l.codes l.columns.items l.groups.items l.left l.fn.from l.number l.fn.behind l.fn.first l.fn.last
