use Rattle.std.proofs.Common.{◌≡◌, true, drop, map}
use Rattle.std.specs.List.{AllByRecursion, list_all}
use Rattle.formula_code.specs.Staying.{StaysAfter}
use Rattle.formula_code.specs.Tokens.{absolute_node, is_valid_node}
use Rattle.formula_code.proofs.kept.Kept.stays.Given as goal

abbrev pub invariant-loop-node : goal.invariant-loop-node
invariant-loop-node l =
    (list_all is_valid_node (map (absolute_node l.home) (drop l.node-index l.node-items)) ≡ true)
    × (AllByRecursion (StaysAfter l.change l.home l.to) (drop l.node-index l.node-items) → AllByRecursion (StaysAfter l.change l.home l.to) l.node-items)
