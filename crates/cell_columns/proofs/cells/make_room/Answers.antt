use Rattle.std.proofs.Common.{ap, ◌∙◌}
use Rattle.block_column.specs.SlotRows.{SlotRows}
use Rattle.formula_groups.specs.GroupRows.{GroupRows}
use Rattle.cell_columns.proofs.Maps.{map_same}
use Rattle.cell_columns.proofs.cells.make_room.Goals as goal

pub returns-in_err-reserve-clause-slots : goal.returns-in_err-reserve-clause-slots
returns-in_err-reserve-clause-slots c =
    map_same (λ (x : SlotRows). x.slots) c.args.columns.now.items c.args.number c.reserve.new.self c.index_mut.result.now (c.reserve.ensures.slots ∙ ap (λ (x : SlotRows). x.slots) c.index_mut.ensures.value)

pub returns-clause-slots : goal.returns-clause-slots
returns-clause-slots c =
    map_same (λ (x : SlotRows). x.slots) c.args.columns.now.items c.args.number c.reserve.new.self c.index_mut.result.now (c.reserve.ensures.slots ∙ ap (λ (x : SlotRows). x.slots) c.index_mut.ensures.value)

pub returns-clause-codes : goal.returns-clause-codes
returns-clause-codes c =
    map_same (λ (x : GroupRows). x.entries) c.args.groups.now.items c.args.number c.reserve-2.new.self c.index_mut-2.result.now (c.reserve-2.ensures.entries ∙ ap (λ (x : GroupRows). x.entries) c.index_mut-2.ensures.value)
