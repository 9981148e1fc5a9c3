use Rattle.formula_reader.proofs.tokens.unquoted.Given as goal
use Rattle.std.proofs.Common.{◌≡◌, false, length}
use Rattle.formula_reader.specs.Leaves.{unquoted}
use Rattle.formula_reader.proofs.Unquoting.{prepended}

abbrev pub invariant-loop-run : goal.invariant-loop-run
invariant-loop-run l = prepended l.text.items (unquoted false l.left) ≡ unquoted false l.fn.bytes

abbrev pub decreases-loop-run : goal.decreases-loop-run
decreases-loop-run l = length l.left
