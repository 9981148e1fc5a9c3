use Rattle.std.proofs.Common.{◌≡◌, take}
use Rattle.calc_model.proofs.tree.+copying.Given as goal

abbrev pub invariant-copy_all-loop-tree : goal.invariant-copy_all-loop-tree
invariant-copy_all-loop-tree l = l.copied ≡ take l.tree-index l.trees
