use Rattle.std.proofs.lemmas.Result.{on_ok_weaker}
use Rattle.block_column.specs.declared.slot.Slot.TheVariants.{Empty}
use Rattle.block_column.proofs.Columns.{inserted}
use Rattle.block_column.proofs.table.Table.insert_rows.Goals as goal

pub returns-clause-ok : goal.returns-clause-ok
returns-clause-ok c =
    on_ok_weaker c.move_rows.result (inserted c.args.self.now c.move_rows.new.self c.args.place c.args.count Empty c.requires.edit c.requires.column) c.move_rows.ensures.ok
