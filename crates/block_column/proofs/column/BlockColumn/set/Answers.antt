use Rattle.std.proofs.Common.{◌-◌, ap, ◌∙◌}
use Rattle.std.proofs.Math.ListN.{set}
use Rattle.std.proofs.lemmas.Result.{on_ok_weaker, on_err_weaker}
use Rattle.block_column.proofs.Columns.{set-left, same-left, either}
use Rattle.block_column.proofs.column.BlockColumn.set.Goals as goal

pub invariant_of-self : goal.invariant_of-self
invariant_of-self c =
    let t = c.self.inside.table in
    either c.put.result c.put.ensures.ok c.put.ensures.err
    (λ h. (set-left t c.put.new.self c.args.row c.args.slot c.requires c.self.invariant h).column) (λ h. (same-left t c.put.new.self c.self.invariant h).column)

pub returns-clause-ok : goal.returns-clause-ok
returns-clause-ok c =
    on_ok_weaker c.put.result
    (λ h. (set-left c.self.inside.table c.put.new.self c.args.row c.args.slot c.requires c.self.invariant h).slots ∙ ap (λ v. set v.slots (c.args.row - 1) c.args.slot) c.self.view_is) c.put.ensures.ok

pub returns-clause-err : goal.returns-clause-err
returns-clause-err c =
    on_err_weaker c.put.result (λ h. (same-left c.self.inside.table c.put.new.self c.self.invariant h).slots ∙ ap (λ v. v.slots) c.self.view_is) c.put.ensures.err
