use Rattle.std.proofs.Common.{◌≡◌, ◌++◌, drop}
use Rattle.kept_codes.specs.FormulaCells.{cells_of_groups}
use Rattle.kept_codes.proofs.grouped.push_groups.Given as goal

-- with the cells of the groups behind, all are there
abbrev pub invariant-loop-group : goal.invariant-loop-group
invariant-loop-group l = l.out ++ cells_of_groups l.fn.number (drop l.group-index l.fn.groups) ≡ l.fn.out ++ cells_of_groups l.fn.number l.fn.groups
