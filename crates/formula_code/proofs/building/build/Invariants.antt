use Rattle.std.proofs.Common.{◌≡◌, [], length, reverse}
use Rattle.formula_code.specs.Building.{built}
use Rattle.calc_model.specs.Changes.{changed}
use Rattle.formula_code.proofs.building.build.Given as goal

abbrev pub invariant-loop-token : goal.invariant-loop-token
invariant-loop-token l = built (changed l.change l.home) l.tokens (reverse l.trees.items) ≡ built (changed l.change l.home) l.fn.tokens []

abbrev pub decreases-loop-token : goal.decreases-loop-token
decreases-loop-token l = length l.tokens
