use Rattle.std.proofs.Common.{◌==◌, sym, ap, subst, ◌∙◌, arith}
use Rattle.std.proofs.lemmas.Bool.Decides.{Decides-eqb}
use Rattle.calc_addr.specs.declared.cell.TheConstants.{LAST_ROW}
use Rattle.run_tables.specs.Runs.{Rises, runs_of}
use Rattle.run_tables.specs.Rows.{spliced}
use Rattle.std.proofs.lemmas.Result.{on_ok_weaker}
use Rattle.run_tables.proofs.RunLists.{runs-rise}
use Rattle.run_tables.proofs.Entries.{table-small}
use Rattle.formula_groups.specs.Groups.{group_run, codes_of}
use Rattle.formula_groups.proofs.Kept.{runs-of-table, table-of-runs, length-codes}
use Rattle.formula_groups.proofs.column.edit.Goals as goal

pub splice-requires-clause-in_order : goal.splice-requires-clause-in_order
splice-requires-clause-in_order c =
    let table = c.args.groups.now.items in
    subst (Rises 1) (sym (runs-of-table table (codes_of table) c.requires.table)) (runs-rise (λ k l. k == l) Decides-eqb 1 (codes_of table))

pub splice-requires-clause-small : goal.splice-requires-clause-small
splice-requires-clause-small c =
    let table = c.args.groups.now.items in
    table-small (λ k l. k == l) Decides-eqb group_run LAST_ROW table (codes_of table) (omega (arith, length-codes table)) (omega arith) (runs-of-table table (codes_of table) c.requires.table)

pub returns-clause-ok : goal.returns-clause-ok
returns-clause-ok c =
    let table = c.args.groups.now.items in
    on_ok_weaker c.splice.result
    (λ done codes long is.
    table-of-runs c.splice.new.table.items (spliced c.args.from c.args.to c.args.rows c.args.code codes)
    (done codes long (runs-of-table table codes is) ∙ ap (λ e. runs_of (λ k l. k == l) (spliced c.args.from c.args.to c.args.rows e codes)) c.key_of.ensures))
    c.splice.ensures.done
