use Rattle.cell_columns.proofs.Rooms.{RoomMade}
use Rattle.cell_columns.proofs.emptying.make_rooms.Given as goal

abbrev pub invariant-loop-number : goal.invariant-loop-number
invariant-loop-number l = RoomMade l.fn.columns.items l.columns.items l.fn.groups.items l.groups.items l.fn.from l.number
