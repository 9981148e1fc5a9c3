use Rattle.std.proofs.Common.{◌-◌, length, map, get_or, ap, subst, ◌∙◌, arith}
use Rattle.run_tables.specs.Edges.{IsFirstPast}
use Rattle.block_column.specs.Blocks.{block_run}
use Rattle.block_column.specs.Tables.{slots_of}
use Rattle.block_column.proofs.AtRows.{at-some, at-row}
use Rattle.block_column.proofs.Kept.{table-laid}
use Rattle.block_column.proofs.table.Table.block_at.Goals as goal

pub overflow_sub-place : goal.overflow_sub-place
overflow_sub-place c =
    let t = c.args.self.now.blocks.items in
    let past = subst (λ v. IsFirstPast c.args.row (map block_run v) c.first_past-place.result) c.deref.ensures.value c.first_past-place.ensures.place in
    at-some c.args.row c.first_past-place.result t (slots_of c.args.self.now) (table-laid t (slots_of c.args.self.now) c.requires.table.blocks) c.requires.row.from c.requires.row.to past

pub index-requires : goal.index-requires
index-requires c =
    let t = c.args.self.now.blocks.items in
    let past = subst (λ v. IsFirstPast c.args.row (map block_run v) c.first_past-place.result) c.deref.ensures.value c.first_past-place.ensures.place in
    let some = at-some c.args.row c.first_past-place.result t (slots_of c.args.self.now) (table-laid t (slots_of c.args.self.now) c.requires.table.blocks) c.requires.row.from c.requires.row.to past in
    omega (arith, c.first_past-place.ensures.within, c.deref.ensures.len)

pub index-requires-2 : goal.index-requires-2
index-requires-2 c =
    let t = c.args.self.now.blocks.items in
    let past = subst (λ v. IsFirstPast c.args.row (map block_run v) c.first_past-place.result) c.deref.ensures.value c.first_past-place.ensures.place in
    let some = at-some c.args.row c.first_past-place.result t (slots_of c.args.self.now) (table-laid t (slots_of c.args.self.now) c.requires.table.blocks) c.requires.row.from c.requires.row.to past in
    omega (arith, c.first_past-place.ensures.within, c.deref.ensures.len, c.requires.table.places)

pub returns : goal.returns
returns c =
    let t = c.args.self.now.blocks.items in
    let slots = slots_of c.args.self.now in
    let laid = table-laid t slots c.requires.table.blocks in
    let past = subst (λ v. IsFirstPast c.args.row (map block_run v) c.first_past-place.result) c.deref.ensures.value c.first_past-place.ensures.place in
    let counts = c.index-2.ensures ∙ ap (λ v. get_or v (c.first_past-place.result - 1) c.index-2.result.now) c.requires.table.counts in
    at-row c.args.row c.first_past-place.result t slots c.index-2.result.now c.index.result.now c.index.result.now laid c.requires.row.from c.requires.row.to c.requires.table.rows past
    (at-some c.args.row c.first_past-place.result t slots laid c.requires.row.from c.requires.row.to past)
    (omega (arith, c.first_past-place.ensures.within, ap length c.deref.ensures.value)) c.index.ensures counts
