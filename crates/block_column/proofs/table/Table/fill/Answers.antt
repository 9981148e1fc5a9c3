use Rattle.std.proofs.Common.{length, map, Some, ap, ◌∙◌, arith, vec_len}
use Rattle.std.specs.Vec.{vec_capacity}
use Rattle.std.proofs.lemmas.List.{length-map}
use Rattle.run_tables.specs.Rows.{spliced}
use Rattle.run_tables.specs.Runs.{runs_of}
use Rattle.block_column.specs.Kinds.{kind_of, same_kind}
use Rattle.block_column.specs.Stores.{store_room}
use Rattle.block_column.specs.Blocks.{block_kinds}
use Rattle.block_column.specs.Tables.{slots_of}
use Rattle.block_column.proofs.Kept.{are-blocks, table-kinds, can-replace, holds-still, no-items, table-edited}
use Rattle.block_column.proofs.Rooms.{room-left, not-err}
use Rattle.block_column.proofs.table.Table.fill.Goals as goal

pub returns-in_err-make_room-clause-reserved : goal.returns-in_err-make_room-clause-reserved
returns-in_err-make_room-clause-reserved c =
    λ is places.
    not-err c.make_room.result _ c.in_err-make_room.was
    (c.make_room.ensures.succeeds (no-items c.in_ok-more.more c.args.rows c.args.slot.now is c.in_ok-more.ensures.items))

pub edit_blocks-requires-clause-blocks : goal.edit_blocks-requires-clause-blocks
edit_blocks-requires-clause-blocks c = are-blocks c.args.self.now (slots_of c.args.self.now) c.requires.table

pub edit_blocks-requires-clause-to : goal.edit_blocks-requires-clause-to
edit_blocks-requires-clause-to c =
    let kinds = table-kinds c.args.self.now.blocks.items (slots_of c.args.self.now) c.requires.table.blocks in
    omega (arith, c.requires.to, ap length kinds, length-map (slots_of c.args.self.now) kind_of)

pub edit_blocks-requires-clause-rows : goal.edit_blocks-requires-clause-rows
edit_blocks-requires-clause-rows c =
    let kinds = table-kinds c.args.self.now.blocks.items (slots_of c.args.self.now) c.requires.table.blocks in
    omega (arith, c.requires.rows, ap length kinds, length-map (slots_of c.args.self.now) kind_of)

pub replace-requires-clause-within : goal.replace-requires-clause-within
replace-requires-clause-within c =
    let slots = slots_of c.args.self.now in
    can-replace c.make_room.new.self slots c.args.from c.args.to c.ahead-low.result c.ahead-high.result
    (holds-still c.args.self.now.stores c.make_room.new.self slots c.requires.table.stores c.make_room.ensures.kept) c.requires.order
    c.ahead-low.ensures c.ahead-high.ensures

pub returns-clause-ok : goal.returns-clause-ok
returns-clause-ok c =
    let slots = slots_of c.args.self.now in
    table-edited c.args.self.now (record { blocks = c.edit_blocks.new.blocks; counts = c.edit_blocks.new.counts; stores = c.replace.new.self }) c.make_room.new.self slots c.args.from c.args.to c.args.rows c.args.slot.now c.ahead-low.result c.ahead-high.result
    c.requires.table
    (holds-still c.args.self.now.stores c.make_room.new.self slots c.requires.table.stores c.make_room.ensures.kept) c.requires.order c.requires.to c.requires.rows
    (c.in_ok-edit_blocks.ensures.ok ∙ ap (λ k. runs_of same_kind (spliced c.args.from c.args.to c.args.rows (Some k) (map Some (block_kinds c.args.self.now.blocks.items)))) c.kind.ensures)
    c.in_ok-edit_blocks.ensures.counts c.edit_blocks.ensures.places c.ahead-low.ensures c.ahead-high.ensures
    (c.replace.ensures.items _ c.in_ok-more.ensures.items)

pub returns-clause-room : goal.returns-clause-room
returns-clause-room c =
    let t = c.args.self.now in
    λ is.
    let stores = c.replace.ensures.room (no-items c.in_ok-more.more c.args.rows c.args.slot.now is c.in_ok-more.ensures.items) in
    room-left (vec_capacity t.blocks) (vec_capacity t.counts) (vec_len t.blocks) (store_room t.stores)
    (vec_capacity c.edit_blocks.new.blocks) (vec_capacity c.edit_blocks.new.counts) (vec_len c.edit_blocks.new.blocks) (store_room c.replace.new.self)
    c.edit_blocks.ensures.capacity c.edit_blocks.ensures.counts_capacity c.edit_blocks.ensures.len
    (omega (arith, c.make_room.ensures.kept.room, stores))
