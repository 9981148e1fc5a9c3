use Rattle.std.proofs.Common.{◌++◌, ◌∷◌, Some, ap, reverse, sym, ◌∙◌}
use Rattle.calc_model.specs.declared.tree.Tree.TheVariants as t
use Rattle.formula_code.specs.Building.{built_on}
use Rattle.calc_model.specs.Changes.{changed}
use Rattle.formula_code.specs.declared.node.Node.TheVariants.{Call}
use Rattle.formula_code.specs.Lent.{lent}
use Rattle.formula_code.proofs.Built.{taken}
use Rattle.formula_code.proofs.building.tree_of.Goals as goal

pub returns-in_ok-take_args-in-Call : goal.returns-in_ok-take_args-in-Call
returns-in_ok-take_args-in-Call c =
    let by = changed c.args.change c.args.home in
    let args = c.in_ok-take_args-in-Call.field-0 in
    let rest = reverse c.take_args.new.trees.items in
    let name = c.in-Call.name.now in
    ap (λ token. built_on by (lent token) (reverse c.args.trees.now.items)) c.in-Call.is
    ∙ ap (built_on by (Call name c.in-Call.args)) c.in_ok-take_args-in-Call.ensures.taken
    ∙ ap (λ n. built_on by (Call name n) (reverse args ++ rest)) (sym c.in_ok-take_args-in-Call.ensures.count)
    ∙ taken by name args rest
    ∙ ap (λ text. Some (t.Call text args ∷ rest)) (sym c.in_ok-copy-in-Call.ensures)
