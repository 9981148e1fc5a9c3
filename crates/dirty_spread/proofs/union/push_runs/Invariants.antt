use Rattle.dirty_spread.specs.Sweeping.{IsSwept}
use Rattle.dirty_spread.proofs.union.push_runs.Given as goal

abbrev pub invariant-loop-run : goal.invariant-loop-run
invariant-loop-run l = IsSwept l.runs l.run-index l.next l.cells
