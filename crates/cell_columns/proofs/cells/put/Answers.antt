use Rattle.std.proofs.Common.{◌-◌, ◌<◌, length, sym, ap, subst, ◌∙◌}
use Rattle.std.specs.Prelude.{slice_index_or, slice_set}
use Rattle.calc_addr.specs.Places.{Place}
use Rattle.formula_groups.specs.GroupRows.{GroupRows}
use Rattle.cell_columns.specs.Uses.{code_in}
use Rattle.cell_columns.proofs.Setting.{seen_code, seen_put}
use Rattle.cell_columns.proofs.cells.put.Goals as goal

pub put_slot-requires-clause-rows : goal.put_slot-requires-clause-rows
put_slot-requires-clause-rows c =
    let held = c.index_mut-2.result.now in
    subst (λ r. r - 1 < length held.entries) (sym (ap (λ (p : Place). p.row) c.cell.view_is))
    (subst (λ (g : GroupRows). c.args.cell.row - 1 < length g.entries) (sym (c.index_mut-2.ensures.value ∙ ap (λ n. slice_index_or c.args.groups.now.items n held) c.column_number-number.ensures.number)) (c.requires.rows held))

pub returns-clause-slots : goal.returns-clause-slots
returns-clause-slots c =
    seen_put c.args.columns.now.items c.column_number-number.result c.put_slot.new.column c.index_mut.result.now c.args.cell c.args.slot c.column_number-number.ensures.number (subst (λ n. n < length c.args.columns.now.items) (sym c.column_number-number.ensures.number) c.requires.columns) c.index_mut.ensures.value
    (c.put_slot.ensures.slots ∙ ap (λ (p : Place). slice_set c.index_mut.result.now.slots (p.row - 1) c.args.slot) c.cell.view_is)

pub returns-clause-codes : goal.returns-clause-codes
returns-clause-codes c =
    seen_code c.args.groups.now.items c.column_number-number.result c.put_slot.new.groups c.index_mut-2.result.now c.args.cell (code_in c.args.slot) c.column_number-number.ensures.number (subst (λ n. n < length c.args.groups.now.items) (sym c.column_number-number.ensures.number) c.requires.groups) c.index_mut-2.ensures.value
    (c.put_slot.ensures.codes ∙ ap (λ (p : Place). slice_set c.index_mut-2.result.now.entries (p.row - 1) (code_in c.args.slot)) c.cell.view_is)
