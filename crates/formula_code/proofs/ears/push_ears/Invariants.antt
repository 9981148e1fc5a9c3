use Rattle.std.proofs.Common.{◌≡◌, ◌++◌, length, take}
use Rattle.formula_code.specs.Ears.{ears_of}
use Rattle.formula_code.proofs.ears.push_ears.Given as goal

abbrev pub invariant-loop-token : goal.invariant-loop-token
invariant-loop-token g l =
    (l.out.items ++ ears_of l.home (g.N.NameTable.entries l.names) l.tokens ≡ l.fn.out.items ++ ears_of l.home (g.N.NameTable.entries l.names) l.fn.tokens)
    × (take (length l.fn.out.items) l.out.items ≡ l.fn.out.items)

abbrev pub decreases-loop-token : goal.decreases-loop-token
decreases-loop-token g l = length l.tokens
