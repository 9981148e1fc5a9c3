use Rattle.run_unions.specs.Emitted.{IsEmitting}
use Rattle.run_unions.proofs.union.push_runs.Given as goal

abbrev pub invariant-loop-run : goal.invariant-loop-run
invariant-loop-run l = IsEmitting l.fn.out.items l.out.items l.runs l.run-index l.next
