use Rattle.std.proofs.Common.{◌≡◌, ◌+◌, ◌-◌, ◌<◌, List, length-set, take, drop, sym, ap, subst, ◌∙◌, arith}
use Rattle.std.specs.Prelude.{count_by, slice_set}
use Rattle.block_column.specs.Kinds.{is_filled}
use Rattle.block_column.specs.SlotRows.{SlotRows}
use Rattle.cell_columns.specs.Cells.{column_at}
use Rattle.cell_columns.specs.Lent.{AreColumns, slots_of}
use Rattle.cell_columns.specs.Taken.{AreReturned}
use Rattle.cell_columns.proofs.Clearing.{cells_left, column_is, less, many, returned_by, slots_are, still_columns, used_few, uses_there}
use Rattle.cell_columns.proofs.emptying.clear_column.Goals as goal

pub release-requires-clause-uses : goal.release-requires-clause-uses
release-requires-clause-uses c = uses_there c.args.codes.now c.args.columns.now.items c.args.groups.now.items c.args.len c.requires.are c.args.number c.requires.among c.args.first c.args.last c.requires.rows c.index.result.now c.index.ensures c.index-2.result.now c.index-2.ensures c.groups.result.now c.groups.ensures

pub overflow_add-result : goal.overflow_add-result
overflow_add-result c =
    let columns : List SlotRows = c.args.columns.now.items in
    let after : List SlotRows = slice_set columns c.args.number c.empty_rows.new.column in
    let freed : AreReturned c.args.codes.now c.release.new.codes (take (c.args.last + 1 - c.args.first) (drop (c.args.first - 1) (column_at (slots_of columns) c.args.number))) =
    returned_by c.args.codes.now c.args.columns.now.items c.args.groups.now.items c.args.len c.requires.are c.args.number c.requires.among c.args.first c.args.last c.requires.rows c.index.result.now c.index.ensures c.index-2.result.now c.index-2.ensures c.release.new.codes c.groups.result.now c.groups.ensures c.release.ensures in
    let used_before : c.used-used.result ≡ count_by is_filled (column_at (slots_of columns) c.args.number) =
    c.used-used.ensures ∙ ap (count_by is_filled) (slots_are c.args.codes.now c.args.columns.now.items c.args.groups.now.items c.args.len c.requires.are c.args.number c.requires.among c.args.first c.args.last c.requires.rows c.index.result.now c.index.ensures c.index-2.result.now c.index-2.ensures) in
    let used_after : c.used.result ≡ count_by is_filled (column_at (slots_of after) c.args.number) =
    c.used.ensures ∙ ap (count_by is_filled) (column_is after c.args.number c.index-3.result.now (subst (λ n. c.args.number < n) (sym (length-set columns c.args.number c.empty_rows.new.column)) (many c.args.codes.now c.args.columns.now.items c.args.groups.now.items c.args.len c.requires.are c.args.number c.requires.among c.args.first c.args.last c.requires.rows c.index.result.now c.index.ensures c.index-2.result.now c.index-2.ensures)) c.index-3.ensures) in
    omega (arith, used_after, less c.args.codes.now c.args.columns.now.items c.args.groups.now.items c.args.len c.requires.are c.args.number c.requires.among c.args.first c.args.last c.requires.rows c.index_mut.result.now c.index_mut.ensures.value c.index_mut-2.result.now c.index_mut-2.ensures.value c.release.new.codes freed c.empty_rows.new.column c.empty_rows.ensures.slots c.empty_rows.new.groups c.empty_rows.ensures.codes, used_few c.args.codes.now c.args.columns.now.items c.args.groups.now.items c.args.len c.requires.are c.args.number c.requires.among c.args.first c.args.last c.requires.rows c.index_mut.result.now c.index_mut.ensures.value c.index_mut-2.result.now c.index_mut-2.ensures.value c.release.new.codes freed c.empty_rows.new.column c.empty_rows.ensures.slots c.empty_rows.new.groups c.empty_rows.ensures.codes, c.requires.are.counted, c.requires.are.few)

pub overflow_sub-result : goal.overflow_sub-result
overflow_sub-result c =
    let columns : List SlotRows = c.args.columns.now.items in
    let after : List SlotRows = slice_set columns c.args.number c.empty_rows.new.column in
    let freed : AreReturned c.args.codes.now c.release.new.codes (take (c.args.last + 1 - c.args.first) (drop (c.args.first - 1) (column_at (slots_of columns) c.args.number))) =
    returned_by c.args.codes.now c.args.columns.now.items c.args.groups.now.items c.args.len c.requires.are c.args.number c.requires.among c.args.first c.args.last c.requires.rows c.index.result.now c.index.ensures c.index-2.result.now c.index-2.ensures c.release.new.codes c.groups.result.now c.groups.ensures c.release.ensures in
    let used_before : c.used-used.result ≡ count_by is_filled (column_at (slots_of columns) c.args.number) =
    c.used-used.ensures ∙ ap (count_by is_filled) (slots_are c.args.codes.now c.args.columns.now.items c.args.groups.now.items c.args.len c.requires.are c.args.number c.requires.among c.args.first c.args.last c.requires.rows c.index.result.now c.index.ensures c.index-2.result.now c.index-2.ensures) in
    let used_after : c.used.result ≡ count_by is_filled (column_at (slots_of after) c.args.number) =
    c.used.ensures ∙ ap (count_by is_filled) (column_is after c.args.number c.index-3.result.now (subst (λ n. c.args.number < n) (sym (length-set columns c.args.number c.empty_rows.new.column)) (many c.args.codes.now c.args.columns.now.items c.args.groups.now.items c.args.len c.requires.are c.args.number c.requires.among c.args.first c.args.last c.requires.rows c.index.result.now c.index.ensures c.index-2.result.now c.index-2.ensures)) c.index-3.ensures) in
    omega (arith, used_before, used_few c.args.codes.now c.args.columns.now.items c.args.groups.now.items c.args.len c.requires.are c.args.number c.requires.among c.args.first c.args.last c.requires.rows c.index_mut.result.now c.index_mut.ensures.value c.index_mut-2.result.now c.index_mut-2.ensures.value c.release.new.codes freed c.empty_rows.new.column c.empty_rows.ensures.slots c.empty_rows.new.groups c.empty_rows.ensures.codes)

pub returns-clause-are : goal.returns-clause-are
returns-clause-are c =
    let columns : List SlotRows = c.args.columns.now.items in
    let after : List SlotRows = slice_set columns c.args.number c.empty_rows.new.column in
    let freed : AreReturned c.args.codes.now c.release.new.codes (take (c.args.last + 1 - c.args.first) (drop (c.args.first - 1) (column_at (slots_of columns) c.args.number))) =
    returned_by c.args.codes.now c.args.columns.now.items c.args.groups.now.items c.args.len c.requires.are c.args.number c.requires.among c.args.first c.args.last c.requires.rows c.index.result.now c.index.ensures c.index-2.result.now c.index-2.ensures c.release.new.codes c.groups.result.now c.groups.ensures c.release.ensures in
    let used_before : c.used-used.result ≡ count_by is_filled (column_at (slots_of columns) c.args.number) =
    c.used-used.ensures ∙ ap (count_by is_filled) (slots_are c.args.codes.now c.args.columns.now.items c.args.groups.now.items c.args.len c.requires.are c.args.number c.requires.among c.args.first c.args.last c.requires.rows c.index.result.now c.index.ensures c.index-2.result.now c.index-2.ensures) in
    let used_after : c.used.result ≡ count_by is_filled (column_at (slots_of after) c.args.number) =
    c.used.ensures ∙ ap (count_by is_filled) (column_is after c.args.number c.index-3.result.now (subst (λ n. c.args.number < n) (sym (length-set columns c.args.number c.empty_rows.new.column)) (many c.args.codes.now c.args.columns.now.items c.args.groups.now.items c.args.len c.requires.are c.args.number c.requires.among c.args.first c.args.last c.requires.rows c.index.result.now c.index.ensures c.index-2.result.now c.index-2.ensures)) c.index-3.ensures) in
    let same : c.args.len + count_by is_filled (column_at (slots_of after) c.args.number) - count_by is_filled (column_at (slots_of columns) c.args.number) ≡ c.args.len + c.used.result - c.used-used.result = omega (arith, used_before, used_after) in
    subst (λ n. AreColumns c.release.new.codes after (slice_set c.args.groups.now.items c.args.number c.empty_rows.new.groups) n)
    same
    (still_columns c.args.codes.now c.args.columns.now.items c.args.groups.now.items c.args.len c.requires.are c.args.number c.requires.among c.args.first c.args.last c.requires.rows c.index_mut.result.now c.index_mut.ensures.value c.index_mut-2.result.now c.index_mut-2.ensures.value c.release.new.codes freed c.empty_rows.new.column c.empty_rows.ensures.slots c.empty_rows.new.groups c.empty_rows.ensures.codes)

pub returns-clause-cells : goal.returns-clause-cells
returns-clause-cells c =
    let columns : List SlotRows = c.args.columns.now.items in
    let after : List SlotRows = slice_set columns c.args.number c.empty_rows.new.column in
    let freed : AreReturned c.args.codes.now c.release.new.codes (take (c.args.last + 1 - c.args.first) (drop (c.args.first - 1) (column_at (slots_of columns) c.args.number))) =
    returned_by c.args.codes.now c.args.columns.now.items c.args.groups.now.items c.args.len c.requires.are c.args.number c.requires.among c.args.first c.args.last c.requires.rows c.index.result.now c.index.ensures c.index-2.result.now c.index-2.ensures c.release.new.codes c.groups.result.now c.groups.ensures c.release.ensures in
    cells_left c.args.codes.now c.args.columns.now.items c.args.groups.now.items c.args.len c.requires.are c.args.number c.requires.among c.args.first c.args.last c.requires.rows c.index_mut.result.now c.index_mut.ensures.value c.index_mut-2.result.now c.index_mut-2.ensures.value c.release.new.codes freed c.empty_rows.new.column c.empty_rows.ensures.slots c.empty_rows.new.groups c.empty_rows.ensures.codes
