use Rattle.formula_code.proofs.Built.{one_tree}
use Rattle.formula_code.proofs.Distances.{tree_back}
use Rattle.formula_code.proofs.StayingForms.{form_forth}
use Rattle.formula_code.specs.Codes.{form_at}
use Rattle.formula_code.proofs.laws.forms_are_trees.Goals as goal

pub returns-clause-back : goal.returns-clause-back
returns-clause-back c = tree_back

pub returns-clause-form : goal.returns-clause-form
returns-clause-form c codes id home at = form_forth home (form_at codes id) at.valid

pub returns-clause-one : goal.returns-clause-one
returns-clause-one c = one_tree
