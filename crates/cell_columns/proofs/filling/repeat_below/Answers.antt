use Rattle.std.proofs.Common.{◌≡◌, ◌+◌, ◌-◌, ◌<◌, length, drop, replicate, take, sym, ap, subst, ◌∙◌, arith}
use Rattle.std.proofs.Common.{get_or-set_same}
use Rattle.std.specs.Prelude.{count_by, slice_set}
use Rattle.calc_addr.specs.Places.{Place}
use Rattle.block_column.specs.Kinds.{is_filled}
use Rattle.block_column.specs.SlotRows.{SlotRows}
use Rattle.run_tables.specs.Rows.{rows_set}
use Rattle.cell_columns.specs.Cells.{cells_of}
use Rattle.cell_columns.specs.Taken.{AreReplaced}
use Rattle.cell_columns.specs.Lent.{AreColumns, slots_of}
use Rattle.cell_columns.specs.Uses.{codes_in}
use Rattle.cell_columns.proofs.ColumnFilled.{AreAfter, are_after, columns_kept, is_ready, live_below, same_item}
use Rattle.cell_columns.proofs.Maps.{err_so, length_map}
use Rattle.cell_columns.proofs.filling.repeat_below.Goals.{After-used, After-from_residual}
use Rattle.cell_columns.proofs.filling.repeat_below.Goals as goal

pub repeat_slot-requires-clause-grouped : goal.repeat_slot-requires-clause-grouped
repeat_slot-requires-clause-grouped c =
    (is_ready c.args.codes.now c.args.columns.now.items c.args.groups.now.items c.args.len c.requires.are c.args.cell c.column_number-number.ensures.place c.column_number-number.result c.column_number-number.ensures.number c.index_mut.result.now c.index_mut.ensures.value c.index_mut-2.result.now c.index_mut-2.ensures.value).grouped

pub repeat_slot-requires-clause-live : goal.repeat_slot-requires-clause-live
repeat_slot-requires-clause-live c = live_below c.args.codes.now c.args.cell c.column_number-number.ensures.place c.args.last c.requires.rows c.args.slot.now c.requires.fits

pub repeat_slot-requires-clause-few : goal.repeat_slot-requires-clause-few
repeat_slot-requires-clause-few c =
    (is_ready c.args.codes.now c.args.columns.now.items c.args.groups.now.items c.args.len c.requires.are c.args.cell c.column_number-number.ensures.place c.column_number-number.result c.column_number-number.ensures.number c.index_mut.result.now c.index_mut.ensures.value c.index_mut-2.result.now c.index_mut-2.ensures.value).few

-- where memory is refused, what is seen stays
same_columns : (c : After-from_residual) → AreColumns c.repeat_slot.new.codes (slice_set c.args.columns.now.items c.column_number-number.result c.repeat_slot.new.column) (slice_set c.args.groups.now.items c.column_number-number.result c.repeat_slot.new.groups) c.args.len × (cells_of c.repeat_slot.new.codes (slots_of (slice_set c.args.columns.now.items c.column_number-number.result c.repeat_slot.new.column)) ≡ cells_of c.args.codes.now (slots_of c.args.columns.now.items))
same_columns c =
    let ready = is_ready c.args.codes.now c.args.columns.now.items c.args.groups.now.items c.args.len c.requires.are c.args.cell c.column_number-number.ensures.place c.column_number-number.result c.column_number-number.ensures.number c.index_mut.result.now c.index_mut.ensures.value c.index_mut-2.result.now c.index_mut-2.ensures.value in
    columns_kept c.args.codes.now c.repeat_slot.new.codes c.in_err-repeat_slot.ensures.kept c.args.columns.now.items c.args.groups.now.items c.args.len c.requires.are c.column_number-number.result c.index_mut.result.now c.index_mut.ensures.value c.index_mut-2.result.now c.index_mut-2.ensures.value c.repeat_slot.new.column c.in_err-repeat_slot.ensures.err c.repeat_slot.new.groups
    (c.repeat_slot.ensures.grouped ∙ ap codes_in c.in_err-repeat_slot.ensures.err ∙ sym ready.grouped)

pub returns-in_err-repeat_slot-clause-err : goal.returns-in_err-repeat_slot-clause-err
returns-in_err-repeat_slot-clause-err c = err_so c.from_residual.result _ (same_columns c).0

pub returns-in_err-repeat_slot-clause-kept : goal.returns-in_err-repeat_slot-clause-kept
returns-in_err-repeat_slot-clause-kept c = err_so c.from_residual.result _ (same_columns c).1

after : (c : After-used) → AreAfter c.args.codes.now c.repeat_slot.new.codes c.args.columns.now.items c.args.groups.now.items c.args.len c.args.cell c.column_number-number.result c.args.last c.args.slot.now c.index_mut.result.now c.repeat_slot.new.column c.repeat_slot.new.groups
after c =
    let d = c.index_mut.result.now in
    let row_is : c.cell.inside.row ≡ c.args.cell.row = ap (λ (q : Place). q.row) c.cell.view_is in
    let slots = subst (λ r. c.repeat_slot.new.column.slots ≡ rows_set (r + 1 - 1) (c.args.last + 1 - (r + 1)) c.args.slot.now d.slots) row_is c.in_ok-repeat_slot.ensures.slots in
    let codes = subst (λ r. AreReplaced c.args.codes.now c.repeat_slot.new.codes (replicate (c.args.last + 1 - (r + 1)) c.args.slot.now) (take (c.args.last + 1 - (r + 1)) (drop (r + 1 - 1) d.slots))) row_is c.in_ok-repeat_slot.ensures.codes in
    are_after c.args.codes.now c.repeat_slot.new.codes c.args.columns.now.items c.args.groups.now.items c.args.len c.requires.are c.args.cell c.column_number-number.ensures.place c.column_number-number.result c.column_number-number.ensures.number c.index_mut.result.now c.index_mut.ensures.value c.index_mut-2.result.now c.index_mut-2.ensures.value c.args.last c.requires.rows c.requires.room c.args.slot.now c.requires.held c.requires.fits c.repeat_slot.new.column slots c.repeat_slot.new.groups c.repeat_slot.ensures.grouped codes

inside : (c : After-used) → c.column_number-number.result < length c.args.columns.now.items
inside c = omega (arith, c.column_number-number.ensures.among, length_map (λ (x : SlotRows). x.slots) c.args.columns.now.items, c.requires.are.sheets.all_columns)

used_before : (c : After-used) → c.used-used.result ≡ count_by is_filled c.index_mut.result.now.slots
used_before c = c.used-used.ensures ∙ ap (λ (d : SlotRows). count_by is_filled d.slots) (same_item c.args.columns.now.items c.column_number-number.result (inside c) c.index.result.now c.index_mut.result.now c.index.ensures c.index_mut.ensures.value)

used_now : (c : After-used) → c.used.result ≡ count_by is_filled c.repeat_slot.new.column.slots
used_now c = c.used.ensures ∙ ap (λ (d : SlotRows). count_by is_filled d.slots) (c.index-2.ensures ∙ get_or-set_same c.args.columns.now.items c.column_number-number.result c.repeat_slot.new.column c.index-2.result.now (inside c))

pub overflow_add-result : goal.overflow_add-result
overflow_add-result c = omega (arith, used_now c, (after c).used, c.requires.are.few, c.requires.are.counted)

pub overflow_sub-result : goal.overflow_sub-result
overflow_sub-result c =
    let ready = is_ready c.args.codes.now c.args.columns.now.items c.args.groups.now.items c.args.len c.requires.are c.args.cell c.column_number-number.ensures.place c.column_number-number.result c.column_number-number.ensures.number c.index_mut.result.now c.index_mut.ensures.value c.index_mut-2.result.now c.index_mut-2.ensures.value in
    omega (arith, used_before c, ready.used)

pub returns-clause-are : goal.returns-clause-are
returns-clause-are c =
    let same : c.args.len + count_by is_filled c.repeat_slot.new.column.slots - count_by is_filled c.index_mut.result.now.slots ≡ c.args.len + c.used.result - c.used-used.result = omega (arith, used_before c, used_now c) in
    subst (λ n. AreColumns c.repeat_slot.new.codes (slice_set c.args.columns.now.items c.column_number-number.result c.repeat_slot.new.column) (slice_set c.args.groups.now.items c.column_number-number.result c.repeat_slot.new.groups) n) same (after c).are

pub returns-clause-cells : goal.returns-clause-cells
returns-clause-cells c = (after c).cells
