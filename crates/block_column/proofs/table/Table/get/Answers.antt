use Rattle.std.proofs.Common.{◌-◌, sym, ◌∙◌, arith}
use Rattle.block_column.specs.Tables.{slots_of, stored_slot}
use Rattle.block_column.proofs.Kept.{stored-at, is-some}
use Rattle.block_column.proofs.table.Table.get.Goals as goal

pub lend-requires : goal.lend-requires
lend-requires c =
    let slots = slots_of c.args.self.now in
    let at = c.block_at.ensures in
    is-some (stored_slot c.args.self.now.stores c.block_at.result.0.kind c.with.result) slots (c.args.row - 1)
    (stored-at c.args.self.now.stores slots (c.args.row - 1) c.block_at.result.0.kind c.with.result c.requires.table.stores at.kind (c.with.ensures ∙ at.before))
    (omega (arith, c.requires.row.from, c.requires.row.to))

pub returns : goal.returns
returns c =
    let slots = slots_of c.args.self.now in
    let at = c.block_at.ensures in
    sym (stored-at c.args.self.now.stores slots (c.args.row - 1) c.block_at.result.0.kind c.with.result c.requires.table.stores at.kind (c.with.ensures ∙ at.before))
    ∙ c.lend.ensures
