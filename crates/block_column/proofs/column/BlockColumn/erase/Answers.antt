use Rattle.std.proofs.Common.{◌-◌, ap, ◌∙◌}
use Rattle.std.proofs.lemmas.Result.{on_ok_weaker, on_err_weaker}
use Rattle.run_tables.specs.Rows.{rows_erased}
use Rattle.block_column.specs.declared.slot.Slot.TheVariants.{Empty}
use Rattle.block_column.proofs.Columns.{erase-left, same-left, either}
use Rattle.block_column.proofs.column.BlockColumn.erase.Goals as goal

pub invariant_of-self : goal.invariant_of-self
invariant_of-self c =
    let t = c.self.inside.table in
    either c.erase_rows.result c.erase_rows.ensures.ok c.erase_rows.ensures.err
    (λ h. (erase-left t c.erase_rows.new.self c.args.place c.args.count Empty c.requires c.self.invariant h).column) (λ h. (same-left t c.erase_rows.new.self c.self.invariant h).column)

pub returns-clause-ok : goal.returns-clause-ok
returns-clause-ok c =
    on_ok_weaker c.erase_rows.result
    (λ h. (erase-left c.self.inside.table c.erase_rows.new.self c.args.place c.args.count Empty c.requires c.self.invariant h).slots ∙ ap (λ v. rows_erased (c.args.place - 1) c.args.count Empty v.slots) c.self.view_is) c.erase_rows.ensures.ok

pub returns-clause-err : goal.returns-clause-err
returns-clause-err c =
    on_err_weaker c.erase_rows.result (λ h. (same-left c.self.inside.table c.erase_rows.new.self c.self.invariant h).slots ∙ ap (λ v. v.slots) c.self.view_is) c.erase_rows.ensures.err
