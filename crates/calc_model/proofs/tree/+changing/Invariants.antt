use Rattle.std.proofs.Common.{◌≡◌, map, take}
use Rattle.calc_model.specs.Changes.{changed}
use Rattle.calc_model.specs.TreeShifts.{replaced}
use Rattle.calc_model.proofs.tree.+changing.Given as goal

abbrev pub invariant-change_all-loop-tree : goal.invariant-change_all-loop-tree
invariant-change_all-loop-tree l = l.all ≡ map (replaced (changed l.change l.home)) (take l.tree-index l.trees)
