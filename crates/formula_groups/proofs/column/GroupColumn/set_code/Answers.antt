use Rattle.std.proofs.Common.{◌≡◌, ◌+◌, ◌-◌, Some, ap, sym, ◌∙◌, arith, length}
use Rattle.std.proofs.lemmas.Result.{on_ok_weaker}
use Rattle.run_tables.specs.Rows.{rows_set}
use Rattle.run_tables.proofs.RowEdits.{rows_set-one}
use Rattle.calc_addr.specs.declared.cell.TheConstants.{LAST_ROW}
use Rattle.formula_groups.proofs.Kept.{length-codes}
use Rattle.formula_groups.proofs.column.GroupColumn.set_code.Goals as goal

pub returns-clause-ok : goal.returns-clause-ok
returns-clause-ok c =
    let old = c.args.self.now.entries in
    let one : c.args.row + 1 - c.args.row ≡ 1 = omega arith in
    let len : length old ≡ LAST_ROW = ap (λ v. length v.entries) (sym c.self.view_is) ∙ length-codes c.self.inside.groups.items in
    on_ok_weaker c.set_run.result
    (λ e. e ∙ ap (λ n. rows_set (c.args.row - 1) n (Some c.args.id) old) one ∙ rows_set-one (c.args.row - 1) (Some c.args.id) old (omega (arith, c.requires.from, c.requires.to)))
    c.set_run.ensures.ok
