use Rattle.std.proofs.Common.{◌∙◌}
use Rattle.cell_columns.proofs.Rooms.{more_room}
use Rattle.cell_columns.proofs.emptying.make_rooms.Goals as goal

pub loop-number-preserved : goal.loop-number-preserved
loop-number-preserved c = record {
  slots = c.make_room.ensures.slots ∙ c.loop-number.invariant.slots;
  codes = c.make_room.ensures.codes ∙ c.loop-number.invariant.codes;
  room = more_room c.loop-number.columns.items c.make_room.new.columns.items c.loop-number.groups.items c.make_room.new.groups.items c.args.from c.loop-number.number c.loop-number.invariant.room c.make_room.ensures.other_columns c.make_room.ensures.other_groups c.in_ok-make_room.ensures.columns_room c.in_ok-make_room.ensures.groups_room;
}
