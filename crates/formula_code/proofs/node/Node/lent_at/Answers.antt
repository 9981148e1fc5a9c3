use Rattle.std.proofs.Common.{◌≡◌, true, subst, arith}
use Rattle.calc_addr.proofs.References.Tests.{tested-valid}
use Rattle.formula_code.specs.Tokens.{absolute_node, is_token}
use Rattle.formula_code.specs.Relative.{absolute_reference}
use Rattle.formula_code.specs.declared.node.Node.{Node}
use Rattle.formula_code.proofs.node.Node.lent_at.Goals as goal

pub at-requires : goal.at-requires
at-requires c =
    let Passes : Node → Type 0 = λ node. is_token (absolute_node c.args.home node) ≡ true in
    let passed = subst Passes c.in-Ref.is c.requires in
    tested-valid (absolute_reference c.args.home c.in-Ref.reference) (grind (arith, passed))
