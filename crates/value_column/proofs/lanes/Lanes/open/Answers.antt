use Rattle.std.proofs.Common.{[], pos, ◌^◌, vec_len}
use Rattle.calc_model.specs.declared.fault.Fault.TheVariants.{NA}
use Rattle.value_column.specs.declared.lane.Tag.TheVariants as tag
use Rattle.value_column.proofs.Opened.{opened-by, reaches-by, values-opened, lanes-opened}
use Rattle.value_column.proofs.lanes.Lanes.open.Goals as goal

pub returns-clause-lanes : goal.returns-clause-lanes
returns-clause-lanes c =
    lanes-opened c.args.self.now (record { tags = c.open_rows.new.lane; small = c.open_rows-2.new.lane; wide = c.open_rows-3.new.lane; words = c.open_rows-4.new.lane; bad = c.open_rows-5.new.lane }) c.args.from c.args.count c.requires.lanes
    (opened-by c.args.from c.args.count tag.Blank c.args.self.now.tags.items c.room_to_open.new.lane.items c.open_rows.new.lane.items c.room_to_open.ensures.items c.open_rows.ensures.items)
    (opened-by c.args.from c.args.count (pos (2 ^ 63)) c.args.self.now.wide.items c.room_to_open-3.new.lane.items c.open_rows-3.new.lane.items c.room_to_open-3.ensures.items c.open_rows-3.ensures.items)
    (reaches-by c.args.from c.args.count (vec_len c.args.self.now.small) (vec_len c.room_to_open-2.new.lane) (vec_len c.open_rows-2.new.lane) c.room_to_open-2.ensures.len c.open_rows-2.ensures.front c.open_rows-2.ensures.back)
    (reaches-by c.args.from c.args.count (vec_len c.args.self.now.wide) (vec_len c.room_to_open-3.new.lane) (vec_len c.open_rows-3.new.lane) c.room_to_open-3.ensures.len c.open_rows-3.ensures.front c.open_rows-3.ensures.back)
    (reaches-by c.args.from c.args.count (vec_len c.args.self.now.words) (vec_len c.room_to_open-4.new.lane) (vec_len c.open_rows-4.new.lane) c.room_to_open-4.ensures.len c.open_rows-4.ensures.front c.open_rows-4.ensures.back)
    (reaches-by c.args.from c.args.count (vec_len c.args.self.now.bad) (vec_len c.room_to_open-5.new.lane) (vec_len c.open_rows-5.new.lane) c.room_to_open-5.ensures.len c.open_rows-5.ensures.front c.open_rows-5.ensures.back)
    c.open_rows.ensures.most c.open_rows-3.ensures.most

pub returns-clause-ok : goal.returns-clause-ok
returns-clause-ok c =
    values-opened c.args.self.now (record { tags = c.open_rows.new.lane; small = c.open_rows-2.new.lane; wide = c.open_rows-3.new.lane; words = c.open_rows-4.new.lane; bad = c.open_rows-5.new.lane }) c.args.from c.args.count
    (opened-by c.args.from c.args.count tag.Blank c.args.self.now.tags.items c.room_to_open.new.lane.items c.open_rows.new.lane.items c.room_to_open.ensures.items c.open_rows.ensures.items)
    (opened-by c.args.from c.args.count (pos 0) c.args.self.now.small.items c.room_to_open-2.new.lane.items c.open_rows-2.new.lane.items c.room_to_open-2.ensures.items c.open_rows-2.ensures.items)
    (opened-by c.args.from c.args.count (pos (2 ^ 63)) c.args.self.now.wide.items c.room_to_open-3.new.lane.items c.open_rows-3.new.lane.items c.room_to_open-3.ensures.items c.open_rows-3.ensures.items)
    (opened-by c.args.from c.args.count [] c.args.self.now.words.items c.room_to_open-4.new.lane.items c.open_rows-4.new.lane.items c.room_to_open-4.ensures.items c.open_rows-4.ensures.items)
    (opened-by c.args.from c.args.count NA c.args.self.now.bad.items c.room_to_open-5.new.lane.items c.open_rows-5.new.lane.items c.room_to_open-5.ensures.items c.open_rows-5.ensures.items)
