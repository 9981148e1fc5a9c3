use Rattle.cell_interpreter.proofs.Passing.{Passed}
use Rattle.cell_interpreter.proofs.stack.Stack.parameters.Given as goal

abbrev pub invariant-loop : goal.invariant-loop
invariant-loop g l = Passed l.fn.self.operands.items l.self.operands.items l.args.items l.counter
