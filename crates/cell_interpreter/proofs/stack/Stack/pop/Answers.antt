use Rattle.cell_interpreter.proofs.Stacks.{pops_last}
use Rattle.cell_interpreter.proofs.stack.Stack.pop.Goals as goal

pub returns : goal.returns
returns g c =
    pops_last c.args.home (g.V.Values.values c.args.values.now) _ _ c.in-Some.operand c.into_scalar.result c.in-Some.ensures.items c.into_scalar.ensures
