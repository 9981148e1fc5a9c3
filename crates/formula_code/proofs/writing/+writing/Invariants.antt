use Rattle.std.proofs.Common.{◌≡◌, ◌++◌, map, drop}
use Rattle.std.specs.List.{flat_map}
use Rattle.formula_code.specs.Building.{relative_nodes}
use Rattle.formula_code.proofs.writing.+writing.Given as goal

abbrev pub invariant-write_all-loop-tree : goal.invariant-write_all-loop-tree
invariant-write_all-loop-tree l = l.out.items ++ flat_map (λ nodes. nodes) (map (relative_nodes l.home) (drop l.tree-index l.trees)) ≡ l.fn.out.items ++ flat_map (λ nodes. nodes) (map (relative_nodes l.home) l.trees)
