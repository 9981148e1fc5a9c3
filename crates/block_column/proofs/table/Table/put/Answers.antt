use Rattle.std.proofs.Common.{◌-◌, length, map, slice_get, Some, sym, ap, subst, ◌∙◌, arith, vec_len}
use Rattle.std.specs.Vec.{vec_capacity}
use Rattle.std.proofs.lemmas.List.{length-map}
use Rattle.std.proofs.lemmas.Option.{slice_get-map}
use Rattle.run_tables.specs.Rows.{spliced}
use Rattle.run_tables.specs.Runs.{runs_of}
use Rattle.block_column.specs.Kinds.{kind_of, same_kind}
use Rattle.block_column.specs.Stores.{store_room, IsOneRow}
use Rattle.block_column.specs.Blocks.{block_kinds}
use Rattle.block_column.specs.Tables.{slots_of}
use Rattle.block_column.proofs.Kept.{are-blocks, table-kinds, can-replace, holds-still, table-edited}
use Rattle.block_column.proofs.Rooms.{some-room, room-left, not-err}
use Rattle.block_column.proofs.Tallies.{one-row}
use Rattle.block_column.proofs.AtRows.{next-count}
use Rattle.block_column.proofs.table.Table.put.Goals as goal

pub returns-in_err-reserve-clause-reserved : goal.returns-in_err-reserve-clause-reserved
returns-in_err-reserve-clause-reserved c =
    let t = c.args.self.now in
    λ h. not-err c.reserve.result _ c.in_err-reserve.was (c.reserve.ensures.succeeds (some-room (vec_capacity t.blocks) (vec_capacity t.counts) (vec_len t.blocks) (store_room t.stores) h).2)

pub returns-in_err-edit_row-clause-reserved : goal.returns-in_err-edit_row-clause-reserved
returns-in_err-edit_row-clause-reserved c =
    let t = c.args.self.now in
    λ h.
    let room = some-room (vec_capacity t.blocks) (vec_capacity t.counts) (vec_len t.blocks) (store_room t.stores) h in
    not-err c.edit_row.result _ c.in_err-edit_row.was (c.edit_row.ensures.succeeds room.0 room.1)

pub edit_row-requires-clause-blocks : goal.edit_row-requires-clause-blocks
edit_row-requires-clause-blocks c = are-blocks c.args.self.now (slots_of c.args.self.now) c.requires.table

pub edit_row-requires-clause-within : goal.edit_row-requires-clause-within
edit_row-requires-clause-within c =
    let kinds = table-kinds c.args.self.now.blocks.items (slots_of c.args.self.now) c.requires.table.blocks in
    omega (arith, c.requires.row.to, ap length kinds, length-map (slots_of c.args.self.now) kind_of)

pub edit_row-requires-clause-old : goal.edit_row-requires-clause-old
edit_row-requires-clause-old c =
    let slots = slots_of c.args.self.now in
    ap (λ v. slice_get v (c.args.row - 1)) (table-kinds c.args.self.now.blocks.items slots c.requires.table.blocks)
    ∙ slice_get-map kind_of slots (c.args.row - 1) ∙ c.block_at.ensures.kind

pub put-requires-clause-within : goal.put-requires-clause-within
put-requires-clause-within c =
    let slots = slots_of c.args.self.now in
    can-replace c.reserve.new.self slots (c.args.row - 1) c.args.row c.with-low.result c.with-high.result
    (holds-still c.args.self.now.stores c.reserve.new.self slots c.requires.table.stores c.reserve.ensures.kept) (omega arith)
    (c.with-low.ensures ∙ c.block_at.ensures.before)
    (next-count c.args.row c.block_at.result.0 c.block_at.result.1 c.with-low.result c.with-high.result slots c.block_at.ensures c.with-low.ensures c.with-high.ensures)

pub put-requires-clause-one : goal.put-requires-clause-one
put-requires-clause-one c = subst (IsOneRow c.with-low.result) (sym c.with-high.ensures) (one-row c.block_at.result.0.kind c.with-low.result)

pub returns-clause-ok : goal.returns-clause-ok
returns-clause-ok c =
    let slots = slots_of c.args.self.now in
    let kind = c.kind.ensures in
    table-edited c.args.self.now (record { blocks = c.edit_row.new.blocks; counts = c.edit_row.new.counts; stores = c.put.new.self }) c.reserve.new.self slots (c.args.row - 1) c.args.row 1 c.args.slot c.with-low.result c.with-high.result
    c.requires.table
    (holds-still c.args.self.now.stores c.reserve.new.self slots c.requires.table.stores c.reserve.ensures.kept) (omega arith) c.requires.row.to
    (omega (arith, c.requires.row.from, c.requires.row.to, c.requires.table.rows))
    (c.in_ok-edit_row.ensures.ok ∙ ap (λ k. runs_of same_kind (spliced (c.args.row - 1) c.args.row 1 (Some k) (map Some (block_kinds c.args.self.now.blocks.items)))) kind)
    c.in_ok-edit_row.ensures.counts c.edit_row.ensures.places
    (c.with-low.ensures ∙ c.block_at.ensures.before)
    (next-count c.args.row c.block_at.result.0 c.block_at.result.1 c.with-low.result c.with-high.result slots c.block_at.ensures c.with-low.ensures c.with-high.ensures)
    c.put.ensures.items

pub returns-clause-room : goal.returns-clause-room
returns-clause-room c =
    let t = c.args.self.now in
    room-left (vec_capacity t.blocks) (vec_capacity t.counts) (vec_len t.blocks) (store_room t.stores)
    (vec_capacity c.edit_row.new.blocks) (vec_capacity c.edit_row.new.counts) (vec_len c.edit_row.new.blocks) (store_room c.put.new.self)
    c.edit_row.ensures.capacity c.edit_row.ensures.counts_capacity c.edit_row.ensures.len
    (omega (arith, c.reserve.ensures.kept.room, c.put.ensures.room))
