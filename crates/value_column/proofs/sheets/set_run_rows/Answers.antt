use Rattle.value_column.proofs.Unmoved.{unmoved}
use Rattle.value_column.proofs.sheets.set_run_rows.Goals as goal

pub returns-in_err-set_run-clause-err : goal.returns-in_err-set_run-clause-err
returns-in_err-set_run-clause-err c =
    unmoved c.from_residual-in_err-set_run.result c.args.columns.now.items c.reach.new.columns.items c.args.place c.index_mut.result.now c.reach.ensures.same c.index_mut.ensures.value
