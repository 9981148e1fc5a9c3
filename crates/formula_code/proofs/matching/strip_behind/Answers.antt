use Rattle.std.proofs.Common.{List, Option, option_copied, ap, subst}
use Rattle.formula_code.specs.declared.node.Node.{Node}
use Rattle.formula_code.specs.Stripping.{Strips}
use Rattle.formula_code.proofs.Strips.{strips_then}
use Rattle.formula_code.proofs.matching.strip_behind.Goals as goal

pub returns-in-Some : goal.returns-in-Some
returns-in-Some c form nodes first =
    let Stripped : Option (List Node) → Type 0 = λ o. Strips form nodes o in
    strips_then form _ nodes c.in-Some.rest.now _ (subst Stripped (ap option_copied c.in-Some.is) first) c.strip_node.ensures
