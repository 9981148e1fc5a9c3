use Rattle.std.proofs.Common.{◌≡◌, ℕ, ◌+◌, ◌-◌, Option, None, sym, ap, ◌∙◌, arith}
use Rattle.std.proofs.lemmas.Result.{on_ok_weaker}
use Rattle.std.specs.Prelude.{slice_set}
use Rattle.run_tables.specs.Rows.{rows_set}
use Rattle.run_tables.proofs.RowEdits.{rows_set-one}
use Rattle.cell_columns.proofs.slots.put_code.Goals as goal

pub returns-in-None-clause-ok : goal.returns-in-None-clause-ok
returns-in-None-clause-ok c =
    let old = c.args.groups.now.entries in
    let nothing : Option ℕ = None in
    let one : c.args.row + 1 - c.args.row ≡ 1 = omega arith in
    on_ok_weaker c.remove.result
    (λ e. e ∙ ap (λ n. rows_set (c.args.row - 1) n nothing old) one ∙ rows_set-one (c.args.row - 1) nothing old c.requires.rows ∙ ap (slice_set old (c.args.row - 1)) (sym c.in-None.is))
    c.remove.ensures.ok
