use Rattle.std.proofs.Common.{◌≡◌, ◌∙◌, ◌<◌, [], length, ap, sym, subst, arith}
use Rattle.calc_model.specs.CellEdits.{CellEntries}
use Rattle.block_column.specs.SlotRows.{SlotRows}
use Rattle.cell_columns.specs.Cells.{Column, cells_only, column_at}
use Rattle.cell_columns.specs.Lent.{slots_of}
use Rattle.cell_columns.specs.Looks.{AreSlotsOf}
use Rattle.cell_columns.proofs.ColumnSlots.{are_slots}
use Rattle.cell_columns.proofs.Downwards.{column_of, seen_at}
use Rattle.cell_columns.proofs.Maps.{length_map}
use Rattle.cell_columns.proofs.columns.CellColumns.column.Goals as goal

pub returns : goal.returns
returns c =
    let inv = c.self.invariant in
    let n = c.number_of.result in
    let items = c.self.inside.columns.items in
    let among : n < length items = omega (arith, c.number_of.ensures.among, inv.sheets.all_columns, length_map (λ (x : SlotRows). x.slots) items) in
    let here : c.index.result.now.slots ≡ column_at (slots_of items) (column_of c.args.sheet c.args.col) =
    seen_at (λ (x : SlotRows). x.slots) items n c.index.result.now [] c.index.ensures among ∙ ap (column_at (slots_of items)) c.number_of.ensures.number in
    subst (λ (slots : Column). AreSlotsOf (cells_only c.args.self.now) c.args.sheet c.args.col slots) (sym here)
    (subst (λ (cells : CellEntries). AreSlotsOf (cells_only cells) c.args.sheet c.args.col (column_at (slots_of items) (column_of c.args.sheet c.args.col))) c.self.view_is
    (are_slots c.self.inside.table (slots_of items) inv.sheets c.args.sheet c.args.col c.requires))
