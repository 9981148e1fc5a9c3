use Rattle.std.proofs.Common.{◌≡◌, ◌-◌, ◌≤◌, [], ◌∷◌, Some, length, sym, ap, subst, ◌∙◌, arith}
use Rattle.std.specs.Prelude.{count_by, slice_get, slice_index_or}
use Rattle.block_column.specs.Kinds.{is_filled}
use Rattle.calc_model.specs.Books.{with_content}
use Rattle.calc_model.specs.declared.limits.TheConstants.{MOST_CELLS}
use Rattle.calc_model.specs.CellEdits.{CellEntries}
use Rattle.cell_columns.specs.Cells.{cells_of, column_at, column_number, slot_at, with_code, with_slot}
use Rattle.cell_columns.specs.Lent.{codes_of, slots_of}
use Rattle.cell_columns.specs.Taken.{AreReturned}
use Rattle.cell_columns.specs.Uses.{code_in}
use Rattle.cell_columns.proofs.Counted.{counted}
use Rattle.cell_columns.proofs.Edited.{stands}
use Rattle.cell_columns.proofs.Maps.{err_so}
use Rattle.cell_columns.proofs.Same.{columns_same, formulas_few, seen_same}
use Rattle.cell_columns.proofs.Setting.{code_there, counted_now, row_there, formula_coded, seen_set, still_columns, sum_fits, column_few}
use Rattle.cell_columns.proofs.columns.CellColumns.set.Goals as goal

pub slot_of-requires : goal.slot_of-requires
slot_of-requires c =
    let columns = slots_of c.self.inside.columns.items in
    record { room = omega (arith, formulas_few columns, counted c.self.inside.table columns, c.self.invariant.sheets.total, c.self.invariant.few) }

pub invariant_of-self-in_err-slot : goal.invariant_of-self-in_err-slot
invariant_of-self-in_err-slot c =
    columns_same c.self.inside.table c.slot_of.new.codes c.in_err-slot.ensures.err c.self.inside.columns.items c.make_room.new.columns.items c.self.inside.groups.items c.make_room.new.groups.items c.self.inside.len c.make_room.ensures.slots c.make_room.ensures.codes c.self.invariant

pub returns-in_err-slot-clause-kept : goal.returns-in_err-slot-clause-kept
returns-in_err-slot-clause-kept c =
    err_so c.from_residual-in_err-slot.result _
    (seen_same c.self.inside.table c.slot_of.new.codes c.in_err-slot.ensures.err c.self.inside.columns.items c.make_room.new.columns.items c.make_room.ensures.slots ∙ c.self.view_is)

pub give_back-requires : goal.give_back-requires
give_back-requires c = λ id is.
    let before = slots_of c.self.inside.columns.items in
    let was = c.self.invariant.sheets in
    let there : code_in (slot_at before c.args.cell) ≡ Some id =
    code_there before (codes_of c.make_room.new.groups.items) c.args.cell c.code_at-code.result (c.make_room.ensures.codes ∙ c.self.invariant.grouped) (c.code_at-code.ensures [] ∙ ap (λ gs. slice_get (slice_index_or (codes_of gs) (column_number c.args.cell) []) (c.args.cell.row - 1)) c.as_slice.ensures.value) ∙ is in
    omega (arith, stands before was.all_columns was.all_rows c.args.cell c.column_number.ensures.place id (formula_coded (slot_at before c.args.cell) id there), was.used id, c.in_ok-slot.ensures.slot.taken.uses id)

pub put-requires-clause-rows : goal.put-requires-clause-rows
put-requires-clause-rows c =
    row_there (slots_of c.self.inside.columns.items) c.make_room.new.groups.items c.args.cell c.column_number.ensures.place c.self.invariant.sheets.all_columns c.self.invariant.sheets.all_rows (c.make_room.ensures.codes ∙ c.self.invariant.grouped)

pub overflow_add-self : goal.overflow_add-self
overflow_add-self c =
    let before = slots_of c.self.inside.columns.items in
    let there : code_in (slot_at before c.args.cell) ≡ c.code_at-code.result =
    code_there before (codes_of c.make_room.new.groups.items) c.args.cell c.code_at-code.result (c.make_room.ensures.codes ∙ c.self.invariant.grouped) (c.code_at-code.ensures [] ∙ ap (λ gs. slice_get (slice_index_or (codes_of gs) (column_number c.args.cell) []) (c.args.cell.row - 1)) c.as_slice.ensures.value) in
    let returned : AreReturned c.slot_of.new.codes c.give_back.new.codes (slot_at before c.args.cell ∷ []) = c.give_back.ensures (slot_at before c.args.cell) there in
    let slots : slots_of c.put.new.columns.items ≡ with_slot before c.args.cell c.in_ok-slot.slot = c.put.ensures.slots ∙ ap (λ cs. with_slot cs c.args.cell c.in_ok-slot.slot) c.make_room.ensures.slots in
    let codes : codes_of c.put.new.groups.items ≡ with_code (codes_of c.self.inside.groups.items) c.args.cell (code_in c.in_ok-slot.slot) = c.put.ensures.codes ∙ ap (λ gs. with_code gs c.args.cell (code_in c.in_ok-slot.slot)) c.make_room.ensures.codes in
    let fits : length (with_content (cells_of c.self.inside.table before) c.args.cell c.args.content.now) ≤ MOST_CELLS = subst (λ (es : CellEntries). length (with_content es c.args.cell c.args.content.now) ≤ MOST_CELLS) (sym c.self.view_is) c.requires.room in
    let used_before : c.used_at-used.result ≡ count_by is_filled (column_at before (column_number c.args.cell)) =
    c.used_at-used.ensures [] ∙ ap (λ cs. count_by is_filled (column_at (slots_of cs) (column_number c.args.cell))) c.as_slice-2.ensures.value ∙ ap (λ cs. count_by is_filled (column_at cs (column_number c.args.cell))) c.make_room.ensures.slots in
    let used_after : c.used_at.result ≡ count_by is_filled (column_at (slots_of c.put.new.columns.items) (column_number c.args.cell)) =
    c.used_at.ensures [] ∙ ap (λ cs. count_by is_filled (column_at (slots_of cs) (column_number c.args.cell))) c.as_slice-3.ensures.value in
    omega (arith, used_after, sum_fits c.self.inside.table c.slot_of.new.codes c.give_back.new.codes c.self.inside.columns.items c.put.new.columns.items c.self.inside.groups.items c.put.new.groups.items c.self.inside.len c.self.invariant c.args.cell c.column_number.ensures.place c.args.content.now c.in_ok-slot.slot c.in_ok-slot.ensures.slot returned slots codes fits)

pub overflow_sub-self : goal.overflow_sub-self
overflow_sub-self c =
    let before = slots_of c.self.inside.columns.items in
    let there : code_in (slot_at before c.args.cell) ≡ c.code_at-code.result =
    code_there before (codes_of c.make_room.new.groups.items) c.args.cell c.code_at-code.result (c.make_room.ensures.codes ∙ c.self.invariant.grouped) (c.code_at-code.ensures [] ∙ ap (λ gs. slice_get (slice_index_or (codes_of gs) (column_number c.args.cell) []) (c.args.cell.row - 1)) c.as_slice.ensures.value) in
    let returned : AreReturned c.slot_of.new.codes c.give_back.new.codes (slot_at before c.args.cell ∷ []) = c.give_back.ensures (slot_at before c.args.cell) there in
    let slots : slots_of c.put.new.columns.items ≡ with_slot before c.args.cell c.in_ok-slot.slot = c.put.ensures.slots ∙ ap (λ cs. with_slot cs c.args.cell c.in_ok-slot.slot) c.make_room.ensures.slots in
    let codes : codes_of c.put.new.groups.items ≡ with_code (codes_of c.self.inside.groups.items) c.args.cell (code_in c.in_ok-slot.slot) = c.put.ensures.codes ∙ ap (λ gs. with_code gs c.args.cell (code_in c.in_ok-slot.slot)) c.make_room.ensures.codes in
    let fits : length (with_content (cells_of c.self.inside.table before) c.args.cell c.args.content.now) ≤ MOST_CELLS = subst (λ (es : CellEntries). length (with_content es c.args.cell c.args.content.now) ≤ MOST_CELLS) (sym c.self.view_is) c.requires.room in
    let used_before : c.used_at-used.result ≡ count_by is_filled (column_at before (column_number c.args.cell)) =
    c.used_at-used.ensures [] ∙ ap (λ cs. count_by is_filled (column_at (slots_of cs) (column_number c.args.cell))) c.as_slice-2.ensures.value ∙ ap (λ cs. count_by is_filled (column_at cs (column_number c.args.cell))) c.make_room.ensures.slots in
    let used_after : c.used_at.result ≡ count_by is_filled (column_at (slots_of c.put.new.columns.items) (column_number c.args.cell)) =
    c.used_at.ensures [] ∙ ap (λ cs. count_by is_filled (column_at (slots_of cs) (column_number c.args.cell))) c.as_slice-3.ensures.value in
    omega (arith, used_before, column_few c.self.inside.table c.slot_of.new.codes c.give_back.new.codes c.self.inside.columns.items c.put.new.columns.items c.self.inside.groups.items c.put.new.groups.items c.self.inside.len c.self.invariant c.args.cell c.column_number.ensures.place c.args.content.now c.in_ok-slot.slot c.in_ok-slot.ensures.slot returned slots codes fits)

pub invariant_of-self-2 : goal.invariant_of-self-2
invariant_of-self-2 c =
    let before = slots_of c.self.inside.columns.items in
    let there : code_in (slot_at before c.args.cell) ≡ c.code_at-code.result =
    code_there before (codes_of c.make_room.new.groups.items) c.args.cell c.code_at-code.result (c.make_room.ensures.codes ∙ c.self.invariant.grouped) (c.code_at-code.ensures [] ∙ ap (λ gs. slice_get (slice_index_or (codes_of gs) (column_number c.args.cell) []) (c.args.cell.row - 1)) c.as_slice.ensures.value) in
    let returned : AreReturned c.slot_of.new.codes c.give_back.new.codes (slot_at before c.args.cell ∷ []) = c.give_back.ensures (slot_at before c.args.cell) there in
    let slots : slots_of c.put.new.columns.items ≡ with_slot before c.args.cell c.in_ok-slot.slot = c.put.ensures.slots ∙ ap (λ cs. with_slot cs c.args.cell c.in_ok-slot.slot) c.make_room.ensures.slots in
    let codes : codes_of c.put.new.groups.items ≡ with_code (codes_of c.self.inside.groups.items) c.args.cell (code_in c.in_ok-slot.slot) = c.put.ensures.codes ∙ ap (λ gs. with_code gs c.args.cell (code_in c.in_ok-slot.slot)) c.make_room.ensures.codes in
    let fits : length (with_content (cells_of c.self.inside.table before) c.args.cell c.args.content.now) ≤ MOST_CELLS = subst (λ (es : CellEntries). length (with_content es c.args.cell c.args.content.now) ≤ MOST_CELLS) (sym c.self.view_is) c.requires.room in
    let used_before : c.used_at-used.result ≡ count_by is_filled (column_at before (column_number c.args.cell)) =
    c.used_at-used.ensures [] ∙ ap (λ cs. count_by is_filled (column_at (slots_of cs) (column_number c.args.cell))) c.as_slice-2.ensures.value ∙ ap (λ cs. count_by is_filled (column_at cs (column_number c.args.cell))) c.make_room.ensures.slots in
    let used_after : c.used_at.result ≡ count_by is_filled (column_at (slots_of c.put.new.columns.items) (column_number c.args.cell)) =
    c.used_at.ensures [] ∙ ap (λ cs. count_by is_filled (column_at (slots_of cs) (column_number c.args.cell))) c.as_slice-3.ensures.value in
    still_columns c.self.inside.table c.slot_of.new.codes c.give_back.new.codes c.self.inside.columns.items c.put.new.columns.items c.self.inside.groups.items c.put.new.groups.items c.self.inside.len c.self.invariant c.args.cell c.column_number.ensures.place c.args.content.now c.in_ok-slot.slot c.in_ok-slot.ensures.slot returned slots codes fits _ (omega (arith, used_before, used_after, counted_now c.self.inside.table c.slot_of.new.codes c.give_back.new.codes c.self.inside.columns.items c.put.new.columns.items c.self.inside.groups.items c.put.new.groups.items c.self.inside.len c.self.invariant c.args.cell c.column_number.ensures.place c.args.content.now c.in_ok-slot.slot c.in_ok-slot.ensures.slot returned slots codes fits))

pub returns-clause-cells : goal.returns-clause-cells
returns-clause-cells c =
    let before = slots_of c.self.inside.columns.items in
    let there : code_in (slot_at before c.args.cell) ≡ c.code_at-code.result =
    code_there before (codes_of c.make_room.new.groups.items) c.args.cell c.code_at-code.result (c.make_room.ensures.codes ∙ c.self.invariant.grouped) (c.code_at-code.ensures [] ∙ ap (λ gs. slice_get (slice_index_or (codes_of gs) (column_number c.args.cell) []) (c.args.cell.row - 1)) c.as_slice.ensures.value) in
    let returned : AreReturned c.slot_of.new.codes c.give_back.new.codes (slot_at before c.args.cell ∷ []) = c.give_back.ensures (slot_at before c.args.cell) there in
    let slots : slots_of c.put.new.columns.items ≡ with_slot before c.args.cell c.in_ok-slot.slot = c.put.ensures.slots ∙ ap (λ cs. with_slot cs c.args.cell c.in_ok-slot.slot) c.make_room.ensures.slots in
    let codes : codes_of c.put.new.groups.items ≡ with_code (codes_of c.self.inside.groups.items) c.args.cell (code_in c.in_ok-slot.slot) = c.put.ensures.codes ∙ ap (λ gs. with_code gs c.args.cell (code_in c.in_ok-slot.slot)) c.make_room.ensures.codes in
    let fits : length (with_content (cells_of c.self.inside.table before) c.args.cell c.args.content.now) ≤ MOST_CELLS = subst (λ (es : CellEntries). length (with_content es c.args.cell c.args.content.now) ≤ MOST_CELLS) (sym c.self.view_is) c.requires.room in
    seen_set c.self.inside.table c.slot_of.new.codes c.give_back.new.codes c.self.inside.columns.items c.put.new.columns.items c.self.inside.groups.items c.put.new.groups.items c.self.inside.len c.self.invariant c.args.cell c.column_number.ensures.place c.args.content.now c.in_ok-slot.slot c.in_ok-slot.ensures.slot returned slots codes fits ∙ ap (λ (es : CellEntries). with_content es c.args.cell c.args.content.now) c.self.view_is
