use Rattle.formula_reader.proofs.signs.signed.Given as goal
use Rattle.std.proofs.Common.{◌≡◌, length}
use Rattle.formula_reader.specs.Signs.{signed}

abbrev pub invariant-loop-sign : goal.invariant-loop-sign
invariant-loop-sign l = signed l.signs.items l.made ≡ signed l.fn.signs.items l.fn.tree

abbrev pub decreases-loop-sign : goal.decreases-loop-sign
decreases-loop-sign l = length l.signs.items
