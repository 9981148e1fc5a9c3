use Rattle.std.proofs.Common.{◌+◌, ◌-◌, ap, ◌∙◌}
use Rattle.std.proofs.lemmas.Result.{on_ok_weaker, on_err_weaker}
use Rattle.run_tables.specs.Rows.{rows_set}
use Rattle.block_column.specs.declared.slot.Slot.TheVariants.{Empty}
use Rattle.block_column.proofs.Columns.{range-left, same-left, either}
use Rattle.block_column.proofs.column.BlockColumn.clear.Goals as goal

pub invariant_of-self : goal.invariant_of-self
invariant_of-self c =
    let t = c.self.inside.table in
    either c.fill.result c.fill.ensures.ok c.fill.ensures.err
    (λ h. (range-left t c.fill.new.self c.args.first c.args.last Empty c.requires c.self.invariant h).column) (λ h. (same-left t c.fill.new.self c.self.invariant h).column)

pub returns-clause-ok : goal.returns-clause-ok
returns-clause-ok c =
    on_ok_weaker c.fill.result
    (λ h. (range-left c.self.inside.table c.fill.new.self c.args.first c.args.last Empty c.requires c.self.invariant h).slots ∙ ap (λ v. rows_set (c.args.first - 1) (c.args.last + 1 - c.args.first) Empty v.slots) c.self.view_is) c.fill.ensures.ok

pub returns-clause-err : goal.returns-clause-err
returns-clause-err c =
    on_err_weaker c.fill.result (λ h. (same-left c.self.inside.table c.fill.new.self c.self.invariant h).slots ∙ ap (λ v. v.slots) c.self.view_is) c.fill.ensures.err
