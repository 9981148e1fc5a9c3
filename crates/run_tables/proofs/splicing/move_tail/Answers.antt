use Rattle.std.proofs.Common.{drop, arith}
use Rattle.run_tables.proofs.Places.{unmoved}
use Rattle.run_tables.proofs.splicing.move_tail.Goals as goal

pub returns-else-from-to-clause-back : goal.returns-else-from-to-clause-back
returns-else-from-to-clause-back g c =
    unmoved g.P.Piece.run c.args.from c.args.to (drop c.args.place c.args.table.now.items) (omega arith) c.requires.past
