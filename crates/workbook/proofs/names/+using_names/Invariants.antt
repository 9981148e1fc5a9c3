use Rattle.std.proofs.Common.{◌≡◌, drop}
use Rattle.std.specs.List.{list_any}
use Rattle.workbook.proofs.NamesIn.{uses}
use Rattle.workbook.proofs.names.+using_names.Given as goal

-- no tree so far uses one
abbrev pub invariant-is_any_used_in-loop-tree : goal.invariant-is_any_used_in-loop-tree
invariant-is_any_used_in-loop-tree l = list_any (uses l.names) (drop l.tree-index l.trees) ≡ list_any (uses l.names) l.trees
