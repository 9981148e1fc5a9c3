use Rattle.std.proofs.Common.{◌≡◌, subst}
use Rattle.std.specs.Prelude.{IfOk}
use Rattle.calc_model.specs.Books.{area_named}
use Rattle.calc_model.specs.Eval.{eval, top}
use Rattle.formula_code.specs.Codes.{tree_at}
use Rattle.recalc.proofs.value.value_of.Goals as goal

pub returns-clause-value : goal.returns-clause-value
returns-clause-value g c =
    let home = c.args.home in
    subst (λ values. IfOk c.interpret.result (λ v. v ≡ top (eval home (area_named c.args.parts.now) values (tree_at c.args.formula.codes.now c.args.formula.id home)))) c.of-shown.ensures c.interpret.ensures.value
