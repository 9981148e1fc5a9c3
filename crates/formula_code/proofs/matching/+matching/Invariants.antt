use Rattle.std.proofs.Common.{map, drop, Option, List}
use Rattle.std.specs.List.{flat_map}
use Rattle.formula_code.specs.declared.node.Node.{Node}
use Rattle.formula_code.specs.Building.{relative_nodes}
use Rattle.formula_code.specs.Stripping.{Strips}
use Rattle.formula_code.proofs.matching.+matching.Given as goal

abbrev pub invariant-strip_all-loop-tree : goal.invariant-strip_all-loop-tree
invariant-strip_all-loop-tree l = (o : Option (List Node)) → Strips (flat_map (λ nodes. nodes) (map (relative_nodes l.home) (drop l.tree-index l.trees))) l.rest o → Strips (flat_map (λ nodes. nodes) (map (relative_nodes l.home) l.trees)) l.nodes o
