use Rattle.calc_model.specs.Books.{entry_named}
use Rattle.cell_interpreter.proofs.Running.{IsUnderWay}
use Rattle.cell_interpreter.proofs.stack.Stack.evaluate.Given as goal

abbrev pub invariant-loop-token : goal.invariant-loop-token
invariant-loop-token g l =
    IsUnderWay l.home (entry_named (g.N.NameTable.entries l.names)) (g.V.Values.values l.values) g.row.SIZE l.fn.tokens l.token-iterator l.self.operands.items
